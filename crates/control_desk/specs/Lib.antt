pub use Rattle.flagops_shell.specs.Files as Holdings
pub use Rattle.control_answers.specs.Snapshot
pub use Rattle.control_flags.specs.Calls
pub mod Names
pub mod Files
pub mod Obstacles
pub mod Logs
pub mod Asked
pub mod Sent
pub mod Reply
pub mod Route
pub mod Rules
pub mod Sources
pub mod Held
pub mod Bodies
pub mod Apply
pub mod Desk
pub mod Laws
