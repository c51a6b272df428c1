pub mod About
pub mod Calls
pub mod Held
pub mod Rollouts
