pub mod Sameness
pub mod Freshness
pub mod Writing
