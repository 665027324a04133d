pub mod Digits
pub mod Members
mod Counts
mod Nexts
pub mod Visits
pub mod Totals
pub mod Listed
pub mod Once
pub mod Walks
mod Cases
