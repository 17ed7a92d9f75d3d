mod Cells
mod Texts
mod Sourced
mod Pictured
