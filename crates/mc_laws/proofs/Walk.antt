-- What a step can be: the moves of one connection, and of the world.
pub mod Moves
pub mod Handings
pub mod Steps
pub mod Each
pub mod Ticking
