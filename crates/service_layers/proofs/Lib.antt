pub mod Crossings
mod Fields
pub mod Parts
pub mod Standing
