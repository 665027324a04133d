mod InPages
mod Measuring
mod Parts
pub mod Standing
