pub mod Crossings
mod Counting
mod Steps
mod Sending
mod Recorded
