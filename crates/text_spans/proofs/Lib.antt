pub mod Balanced
mod Bounds
mod Found
pub mod Going
pub mod Lexing
mod Located
mod Marks
mod Passed
mod Passing
pub mod Placed
mod Stepping
pub mod Taken
