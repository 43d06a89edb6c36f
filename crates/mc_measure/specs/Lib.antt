pub mod Settling
pub mod LoadText
pub mod Plays
