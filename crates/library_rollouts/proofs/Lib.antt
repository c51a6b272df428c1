mod InTurn
mod Kept
mod Lines
mod Made
mod Planned
