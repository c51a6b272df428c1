mod Asked
mod Blanks
pub mod BookBeginnings
mod Counted
mod Lexed
mod Loaded
mod Loops
mod Members
mod Pieces
mod Recorded
pub mod Succeeded
mod TallyBeginnings
mod Tokens
pub mod Told
mod Wholes
