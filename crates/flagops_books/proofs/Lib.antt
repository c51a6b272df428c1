pub mod Ending
pub mod Following
mod Loaded
mod Losing
pub mod Matched
pub mod Naming
mod Read
pub mod Unions
mod Whole
