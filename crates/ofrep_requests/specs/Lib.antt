pub mod Request
pub mod Tag
