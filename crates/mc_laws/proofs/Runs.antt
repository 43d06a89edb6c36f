-- Laws over runs, a file each.
pub mod Seats
pub mod Worlds
pub mod Owing
pub mod Effects
pub mod Closings
pub mod OneSteps
pub mod Promises
pub mod FirstCauses
pub mod Lasting
