-- That clients decode what they are handed.
pub mod Seats
pub mod Frames
pub mod Worlds
pub mod Streams
