pub mod Alike
pub mod Items
pub mod Lawful
pub mod Scalars
pub mod Unmarked
