-- That packets can tell all that a game shows.
pub mod Told
pub mod Counted
pub mod Windows
pub mod Sights
pub mod Notes
pub mod Clear
pub mod Acts
pub mod Sound
pub mod Noted
pub mod Leading
