pub mod Alone
pub mod Filled
pub mod Matched
pub mod Named
pub mod Numerals
pub mod Tabled
pub mod Unhelped
