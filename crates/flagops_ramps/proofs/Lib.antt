mod Applied
mod Besides
pub mod Diagnosed
pub mod Firsts
mod Kept
mod Loaded
pub mod Matched
pub mod Noted
mod Stepped
mod Valid
