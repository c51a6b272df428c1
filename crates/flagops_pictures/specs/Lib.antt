pub mod Asked
pub mod Commands
pub mod Diagnostics
pub mod Laws
pub mod Pictured
pub mod Planning
pub mod Ramps
pub mod Words
