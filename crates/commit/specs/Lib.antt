pub mod Ended
pub mod Works
