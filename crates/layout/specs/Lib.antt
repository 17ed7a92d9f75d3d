pub mod Faults
pub mod Places
pub mod Layouts
pub mod Answers
pub mod Radix
pub mod Rules
pub mod Words
