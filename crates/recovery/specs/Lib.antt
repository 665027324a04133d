pub mod Measured
pub mod Recovered
