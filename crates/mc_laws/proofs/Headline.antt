-- The parts of the promise about a run, and all of them.
pub mod Ticks
pub mod Between
pub mod Logins
pub mod Promise
