pub mod Changing
pub mod Clicking
pub mod Counting
pub mod Dropping
pub mod Falling
pub mod Mobs
pub mod NamedPacks
pub mod Names
pub mod Near
pub mod Opening
mod Picked
pub mod Reaching
pub mod States
pub mod Steps
pub mod Stocked
pub mod Stowing
