pub mod Written
pub mod Memory
