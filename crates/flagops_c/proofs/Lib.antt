pub mod Called
pub mod Crossings
pub mod Handles
