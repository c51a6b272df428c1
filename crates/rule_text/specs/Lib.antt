pub mod Buckets
pub mod Choosing
pub mod Lent
pub mod Listed
pub mod Names
pub mod Parts
pub mod Reading
pub mod Texts
