mod Kept
mod Shown
mod Bounds
mod Grows
pub mod Filed
pub mod Carried
pub mod Sized
mod Cases
pub mod Standing
pub mod Stored
