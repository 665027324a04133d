pub mod Modes
pub mod Between
pub mod Calls
pub mod Reads
pub mod Commits
pub mod Recovers
pub mod Examples
pub mod Standing
