mod Answering
pub mod Crossings
pub mod DocumentsLoaded
pub mod Ends
pub mod Gives
pub mod Learned
pub mod Lines
pub mod Matched
pub mod Reasons
pub mod Sending
pub mod Served
pub mod Told
pub mod Writes
