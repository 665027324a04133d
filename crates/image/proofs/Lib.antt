pub mod Bytes
pub mod Named
pub mod First
pub mod Slices
pub mod Files
pub mod Freeing
pub mod Answers
