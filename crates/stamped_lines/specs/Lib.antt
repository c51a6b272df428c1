pub mod Level
pub mod Line
pub mod Stamped
