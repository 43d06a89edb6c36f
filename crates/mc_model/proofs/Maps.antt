-- Finite maps and lists of numbered things: what is found in one that was changed.
pub mod Sorted
pub mod Entities
pub mod Options
pub mod Lookups
