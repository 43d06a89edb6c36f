pub mod Pieces
pub mod Keys
