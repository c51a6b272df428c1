pub mod Limits
pub mod Logs
pub mod Page
