pub mod Faults
pub mod Phases
pub mod Openings
pub mod Blocks
