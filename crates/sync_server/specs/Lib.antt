pub mod End
pub mod Ends
pub mod Follows
pub mod Handed
pub mod Reads
pub mod Served
pub mod Turns
