pub mod Names
pub mod Files
pub mod Numbered
pub mod Refused
pub mod Examples
