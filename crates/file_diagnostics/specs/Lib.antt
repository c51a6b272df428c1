pub mod Broken
pub mod Ends
pub mod Lines
pub mod Meant
pub mod Named
pub mod Words
