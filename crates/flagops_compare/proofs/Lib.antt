pub mod Drawings
pub mod Ending
pub mod Matched
pub mod Reported
