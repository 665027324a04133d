pub mod Remains
pub mod Delays
