pub mod Alone
pub mod Asked
pub mod Kinds
pub mod Numbers
pub mod Shell
pub mod Usage
pub mod Words
