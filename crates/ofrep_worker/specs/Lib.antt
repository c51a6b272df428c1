pub use Rattle.ofrep_answers.specs.Answer
pub mod Asked
pub mod Notes
pub mod Counted
pub mod Sent
pub mod Answers
pub mod Standing
