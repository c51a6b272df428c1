pub mod Counts
pub mod Limits
pub mod Notes
pub mod Rule
pub mod Sealed
pub mod Seen
pub mod Told
