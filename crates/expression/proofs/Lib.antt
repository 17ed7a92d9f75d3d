pub mod Literals
pub mod Piecewise
pub mod Forming
pub mod Trying
pub mod Matching
pub mod Lettering
pub mod Composing
