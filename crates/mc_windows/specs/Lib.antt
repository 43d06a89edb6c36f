pub mod Pack
pub mod Stock
pub mod Moves
pub mod Clicks
pub mod Lent
pub mod Storing
