pub mod Files
pub mod Looked
