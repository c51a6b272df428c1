pub mod Crossings
mod Documents
mod Fields
mod Filled
pub mod Items
mod LogFiles
mod Outcomes
mod Routes
mod Seen
mod Seats
mod Since
