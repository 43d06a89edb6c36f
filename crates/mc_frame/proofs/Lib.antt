pub mod Stops
pub mod Cuts
pub mod AnyPieces
pub mod Fronts
pub mod Pieces
