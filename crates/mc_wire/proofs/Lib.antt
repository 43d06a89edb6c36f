pub mod Counts
pub mod Streams
pub mod LobbyCalls
mod Loops
