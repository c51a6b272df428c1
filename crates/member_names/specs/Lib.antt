pub mod Kept
pub mod NamedPassed
pub mod Passed
pub mod Places
pub mod Repeated
pub mod Unread
