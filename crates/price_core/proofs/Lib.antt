pub mod Changes
pub mod Cursors
pub mod Inserts
pub mod Lawful
pub mod Limited
mod Misfits
pub mod Numbered
pub mod Order
pub mod Parts
pub mod Pricings
pub mod Runs
pub mod Shared
pub mod Summed
mod Tallied
