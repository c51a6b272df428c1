pub mod Socket
pub mod Stand
pub mod Refused
pub mod Waiting
