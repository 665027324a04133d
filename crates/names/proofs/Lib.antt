pub mod Files
mod Texts
mod Ranges
mod Cases
