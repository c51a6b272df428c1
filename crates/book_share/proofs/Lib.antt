pub mod Bounded
pub mod Crossings
pub mod Full
mod Halving
pub mod Made
pub mod NoAsks
pub mod Pages
pub mod Reaching
pub mod Telling
pub mod Turns
pub mod Whole
