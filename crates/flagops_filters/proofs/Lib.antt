pub mod Ending
mod FilesJoined
mod Joins
mod Kept
mod Loaded
pub mod Matched
pub mod Naming
mod Recorded
mod Tallied
