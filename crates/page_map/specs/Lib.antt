pub mod Sets
pub mod Words
pub mod Listed
pub mod Walks
pub mod Examples
