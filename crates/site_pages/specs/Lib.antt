pub mod Keyed
pub mod Pages
pub mod Sites
pub mod Text
