pub mod Patterns
pub mod Floors
pub mod Groups
pub mod VarintFaults
pub mod Utf8
pub mod Again
pub mod Ids
