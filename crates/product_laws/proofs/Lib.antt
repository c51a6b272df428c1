mod Applied
mod Attempted
mod Commands
mod Cut
mod Evaluated
mod Filters
mod FloatRead
mod Followed
mod Framed
pub mod Holding
mod Kept
mod KeptNumbers
mod KeptSteps
mod Marked
mod Marks
pub mod Parts
mod Pictures
pub mod Places
mod RampRemarks
mod Ramps
mod Read
mod Remarks
mod Replaced
mod Resolved
mod Rollouts
mod Served
mod Shown
mod Spliced
mod Steps
mod Strings
pub mod Sums
mod TokenNumbers
mod Told
pub mod Trees
mod WithFloats
pub mod Words
mod Writable
mod WritableSteps
