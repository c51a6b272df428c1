pub mod Changes
pub mod Deficits
pub mod Edits
pub mod Escape
pub mod Spelling
pub mod Told
pub mod Words
