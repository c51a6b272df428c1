mod Asked
mod Attempted
pub mod Doubting
pub mod Edited
mod Edits
mod Loaded
mod Omissions
pub mod Parts
mod Passed
pub mod Points
pub mod Said
mod Tallies
pub mod Telling
pub mod Valid
pub mod Verdicts
