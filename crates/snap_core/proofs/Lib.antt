pub mod Booked
pub mod Members
pub mod Named
pub mod Ran
pub mod Remembered
pub mod Stepped
