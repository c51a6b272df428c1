pub mod Path
pub mod Place
pub mod View
