pub mod Taken
pub mod Takings
pub mod Full
mod Owed
pub mod Played
mod Counts
pub mod Keeps
