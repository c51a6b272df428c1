pub mod RequestError
pub mod Cost
pub mod Fault
pub mod Limits
pub mod Misfit
pub mod Numbering
pub mod Pricing
pub mod Request
