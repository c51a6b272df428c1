mod LastLine
mod Pieces
mod Lengths
pub mod LastLines
pub mod Handing
