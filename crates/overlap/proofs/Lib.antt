pub mod Firsts
pub mod Merging
pub mod Gathering
pub mod Fittings
pub mod Finds
pub mod Orderliness
