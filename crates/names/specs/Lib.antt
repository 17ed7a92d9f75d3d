pub mod Faults
pub mod Reading
pub mod Variables
pub mod Checks
pub mod Outcomes
pub mod Tables
pub mod Worked
