pub mod Words
pub mod Shown
pub mod Merging
pub mod Starting
pub mod Ended
pub mod Unready
pub mod Rereading
pub mod Sizes
