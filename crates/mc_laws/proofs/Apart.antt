-- What connections have to do with one another: nothing but the game.
pub mod Outs
pub mod Leavings
pub mod Swaps
pub mod Alike
pub mod BadFrames
pub mod Senders
pub mod Befores
pub mod Full
pub mod Twins
pub mod Ticks
pub mod Isolation
pub mod Silent
