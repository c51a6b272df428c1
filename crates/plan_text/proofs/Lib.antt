mod Kept
pub mod Lengths
mod LineEnds
mod Misfits
pub mod Orders
mod PlanLines
pub mod ReadBack
pub mod RowsAgain
mod Tokens
pub mod Whole
pub mod WholeAnswers
mod Writes
