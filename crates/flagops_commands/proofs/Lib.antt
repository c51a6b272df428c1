pub mod AddedUp
mod Described
mod Distinct
pub mod Driving
mod Firsts
mod Gathered
pub mod Hexadecimal
mod Keys
mod Loaded
mod Losing
mod Members
mod Noted
pub mod Refusing
mod Summary
mod UnreadAsks
