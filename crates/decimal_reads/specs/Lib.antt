pub mod Course
pub mod Inside
pub mod Reads
