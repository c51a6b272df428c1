pub mod Fronts
pub mod Adding
pub mod Numbers
pub mod Shown
pub mod Crossings
