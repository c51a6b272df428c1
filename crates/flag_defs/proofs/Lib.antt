pub mod Bytes
pub mod Clear
pub mod Counted
pub mod Deep
pub mod Followed
pub mod Foreseen
mod Grown
mod Joined
mod Lasts
pub mod Law
pub mod Lawful
pub mod Limited
pub mod Marked
mod Marking
pub mod Meanings
pub mod Meant
pub mod Outlines
pub mod Paired
pub mod Parted
pub mod Pieces
pub mod Printed
pub mod PrintedBytes
pub mod Reasons
pub mod Sorted
mod SortedTexts
mod Spelling
mod SpellingPrinted
mod SpellingRead
mod Spellings
pub mod Targetings
pub mod Trees
pub mod Unreferred
pub mod Weighed
pub mod Wholes
mod Written
