pub mod PlayPackets
pub mod ShowText
pub mod Following
pub mod Shown
