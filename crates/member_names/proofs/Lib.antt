pub mod Documents
pub mod Grammar
mod NamedTexts
pub mod Open
pub mod Placing
mod Put
pub mod Same
pub mod SecondNames
mod Turns
