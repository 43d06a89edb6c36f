-- What each deed keeps of a game.
pub mod Packs
pub mod Coming
pub mod Leaving
pub mod Keeping
pub mod Onwards
pub mod Goods
pub mod Made
pub mod Kept
pub mod Shutting
pub mod Chests
pub mod Thrown
