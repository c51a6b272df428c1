pub mod Answer
pub mod Fault
pub mod Misfit
pub mod PlanFile
