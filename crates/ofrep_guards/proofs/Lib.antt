pub mod Types
pub mod Fields
pub mod KeyFiles
pub mod Colons
pub mod Crossings
