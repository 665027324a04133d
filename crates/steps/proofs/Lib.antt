pub mod Went
pub mod Held
pub mod UpTo
