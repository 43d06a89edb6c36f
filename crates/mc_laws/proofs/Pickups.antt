-- What players pick up at a tick keeps of a game.
pub mod Lessened
pub mod Picking
