pub mod Minded
pub mod Drives
pub mod TurnParts
