pub mod Finding
pub mod Radix
pub mod Asking
pub mod Rules
pub mod Order
pub mod Ranges
pub mod Sameness
pub mod Bounds
