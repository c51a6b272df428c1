pub mod Fault
pub mod Laws
pub mod Lines
pub mod Ramp
pub mod Right
pub mod Steps
