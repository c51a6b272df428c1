pub mod Kept
pub mod Lifted
pub mod Writes
