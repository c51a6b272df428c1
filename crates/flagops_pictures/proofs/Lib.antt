mod Diagnosed
pub mod Drawings
pub mod Matched
mod Naming
pub mod Pictures
pub mod Planned
mod Posing
mod Questions
pub mod Stepped
pub mod Steps
mod Tallies
pub mod Wanted
