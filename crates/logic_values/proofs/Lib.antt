pub mod Items
mod Kept
mod Leading
pub mod Members
mod Numbers
mod Objects
mod Occurring
mod Orders
mod Parts
mod Ranges
mod Rationals
mod Signs
pub mod Surfaces
pub mod Tidy
pub mod Truths
mod Values
mod Zeros
