pub mod Cutting
pub mod Growing
