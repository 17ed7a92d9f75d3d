pub mod Blames
pub mod Designs
pub mod Keywords
pub mod Lines
pub mod Numbers
pub mod Texts
