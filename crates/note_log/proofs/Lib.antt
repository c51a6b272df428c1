mod Anew
mod Batches
mod Counted
pub mod Crossings
mod Faults
mod Left
pub mod Lines
pub mod Lists
mod Moved
mod Numbers
mod Recalling
mod Recorded
mod Standing
