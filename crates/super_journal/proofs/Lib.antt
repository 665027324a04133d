pub mod Names
pub mod Listed
