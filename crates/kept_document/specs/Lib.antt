pub mod Agreement
pub mod Following
pub mod Kept
pub mod Place
pub mod Seeking
pub mod View
