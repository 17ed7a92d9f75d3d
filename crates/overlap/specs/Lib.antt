pub mod Clashes
pub mod Rows
pub mod Sharing
pub mod Laws
