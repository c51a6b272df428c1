mod Answering
pub mod Asked
pub mod Driving
pub mod Misfits
pub mod Named
pub mod PlainAsks
pub mod PlainFile
pub mod PlainMembers
pub mod Refused
pub mod Spelled
pub mod Tallied
pub mod Unmarked
pub mod Wanted
