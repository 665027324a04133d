pub mod Recorded
pub mod Copies
pub mod Readings
pub mod Fills
pub mod Makes
pub mod Cases
