pub mod Filled
pub mod Ascent
pub mod Sealed
pub mod Whole
