pub mod Bounded
pub mod Changed
pub mod Copies
mod Effort
pub mod OfTally
pub mod Outcomes
pub mod Plans
pub mod Refines
pub mod Resolved
mod Rest
pub mod Sites
mod Tallies
pub mod Unread
pub mod Variants
pub mod Verifies
