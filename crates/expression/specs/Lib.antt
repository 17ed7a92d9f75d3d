pub mod Faults
pub mod Codes
pub mod Letterings
pub mod Nodes
pub mod Hosts
pub mod Values
pub mod Laws
