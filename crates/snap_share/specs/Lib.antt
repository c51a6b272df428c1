pub mod Fault
pub mod History
pub mod Known
pub mod Lists
pub mod Shown
