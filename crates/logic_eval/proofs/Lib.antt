mod Alike
mod Answered
mod Branches
mod Branching
mod Chains
mod Exits
mod Items
mod Joined
mod Literals
mod Names
mod Parts
mod Paths
mod Reaching
mod Results
mod Scalars
mod Scopes
mod Sites
mod Sizes
mod Values
mod WholeValues
pub mod Budgets
pub mod Choices
pub mod Replacing
pub mod Runs
pub mod Tidy
pub mod Within
