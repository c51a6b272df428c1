pub mod Document
pub mod Law
pub mod Merged
pub mod Spelled
pub mod View
