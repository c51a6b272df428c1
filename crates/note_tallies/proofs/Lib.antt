mod Counted
pub mod Counting
pub mod Fed
pub mod FileHeads
mod Filtering
mod Hashes
mod Heads
pub mod JoinEnds
mod Kept
pub mod Lined
pub mod Numbers
pub mod Pages
pub mod Points
pub mod Refused
mod Reordered
pub mod Same
mod Sorted
pub mod Spelled
mod Summed
mod Tallying
pub mod Told
mod Union
mod Uniting
pub mod Zeros
