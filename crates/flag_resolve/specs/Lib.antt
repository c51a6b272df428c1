pub mod Alike
pub mod Floats
pub mod Lawful
pub mod Printing
pub mod Resolution
pub mod Resolved
pub mod Views
pub mod Words
