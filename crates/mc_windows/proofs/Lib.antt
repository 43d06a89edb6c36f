pub mod Steps
pub mod Effects
pub mod Desks
pub mod Keeping
pub mod Leftovers
pub mod FirstPack
pub mod Ranges
