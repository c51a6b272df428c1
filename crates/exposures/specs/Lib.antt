pub use Rattle.bucket_core.specs.Point
pub mod Counts
pub mod Exposure
