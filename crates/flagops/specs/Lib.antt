pub mod Comes
pub mod First
pub mod Watched
