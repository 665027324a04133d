pub mod Format
pub mod Judged
pub mod Fronts
pub mod Laws
pub mod Read
pub mod OnCard
