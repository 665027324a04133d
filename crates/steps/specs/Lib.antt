pub mod Tasks
pub mod Safe
