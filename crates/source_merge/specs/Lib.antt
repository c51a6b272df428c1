pub mod Fault
pub mod Floats
pub mod Merge
pub mod Outcome
pub mod Sources
pub mod View
