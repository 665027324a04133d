pub mod Looks
pub mod Played
