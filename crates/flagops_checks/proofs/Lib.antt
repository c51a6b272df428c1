pub mod Ending
mod Flagged
mod Following
mod Loaded
mod Matched
mod Null
mod Plainly
mod PlainTrees
mod Printed
mod Spoken
mod Within
