pub mod Asked
pub mod Date
pub mod Dated
pub mod Line
pub mod Stand
pub mod Trace
pub mod View
pub mod Waiting
