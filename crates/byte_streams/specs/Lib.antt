pub mod Fill
pub mod Lines
