mod Bare
mod BodyTexts
mod FirstNear
pub mod Loops
pub mod Matching
pub mod Places
pub mod Reached
mod Spelled
mod Texts
pub mod Variants
mod Ways
