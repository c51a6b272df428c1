pub mod Asked
pub mod DriveFault
pub mod Driven
pub mod Gated
pub mod Known
