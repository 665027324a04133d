pub mod Machine
pub mod Laws
pub mod Changed
pub mod Saved
pub mod Sound
pub mod View
pub mod Examples
