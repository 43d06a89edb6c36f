-- Bytes that come in pieces come to what they come to at once.
pub mod Cuts
pub mod Reads
pub mod Room
pub mod Pieces
pub mod Worlds
