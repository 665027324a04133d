pub mod Super
pub mod Written
