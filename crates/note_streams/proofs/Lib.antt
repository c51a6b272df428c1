mod Among
pub mod Batches
mod Behind
pub mod Both
mod CountedStreams
mod Counts
pub mod Crossings
mod Crowded
pub mod Cut
pub mod Ends
pub mod Exits
pub mod Folded
mod Held
mod LogCounted
mod Members
mod Once
pub mod Parts
mod Refusals
pub mod Running
mod Strays
pub mod StreamCounting
mod Taken
