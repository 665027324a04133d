pub mod Backed
pub mod Mixing
pub mod Keeping
