pub mod Followed
pub mod Serving
pub mod Turned
