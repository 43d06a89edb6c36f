pub mod Loops
pub mod Kept
pub mod Appends
pub mod Trees
