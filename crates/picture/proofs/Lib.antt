pub mod Bodies
pub mod Escapes
mod Looks
mod Remaining
mod Telling
mod Written
