pub mod Lent
pub mod Limits
pub mod Merged
pub mod Viewed
