pub mod Bools
mod Entered
pub mod Entries
pub mod Halving
mod Placed
pub mod Printed
pub mod Pushed
pub mod Quoted
pub mod Readings
pub mod Rising
pub mod Trees
pub mod Turns
pub mod Views
pub mod Writes
mod Written
