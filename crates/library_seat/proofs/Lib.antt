mod Defaults
mod EarlyTexts
mod Feeds
mod Growing
mod Idle
mod KeyTexts
pub mod LinesKept
mod Loops
mod NotEarly
mod Values
