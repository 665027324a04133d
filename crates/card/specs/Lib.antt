pub mod Meaning
pub mod Calls
pub mod Runs
pub mod Crash
pub mod Numbers
pub mod Examples
