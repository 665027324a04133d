pub mod Seen
pub mod Finds
pub mod Linked
pub mod Tells
pub mod Asks
pub mod Examples
