pub mod Needed
pub mod Fresh
pub mod Places
