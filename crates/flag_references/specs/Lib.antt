pub mod Extent
pub mod Forms
pub mod Inlining
pub mod Least
pub mod Measure
pub mod Misplaced
pub mod Readable
pub mod Table
