pub mod Constants
pub mod Limits
