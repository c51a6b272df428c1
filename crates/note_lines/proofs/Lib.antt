pub mod Astray
pub mod Kept
mod Lengths
pub mod Lines
pub mod Noted
pub mod OneKind
