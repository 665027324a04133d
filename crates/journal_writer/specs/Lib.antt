pub mod Written
pub mod OnCard
