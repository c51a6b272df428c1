mod Counts
mod Edits
mod Going
mod Listed
pub mod Naming
pub mod PageGoing
pub mod PagePlaced
mod Placed
pub mod Placing
pub mod Reading
pub mod Sums
mod TableCounting
pub mod TablePlacing
mod Tables
mod Tallied
mod Tallying
mod Told
mod Users
