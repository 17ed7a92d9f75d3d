pub mod Slotting
pub mod Testing
pub mod Picking
pub mod Tabling
pub mod Owning
pub mod Running
pub mod Gathering
