pub mod Kept
pub mod Halves
pub mod Answers
