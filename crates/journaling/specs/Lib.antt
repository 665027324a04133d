pub mod Plan
pub mod Changes
pub mod Buffers
pub mod Made
pub mod Examples
