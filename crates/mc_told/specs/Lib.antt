pub mod KeptRows
pub mod Telling
pub mod RowCode
pub mod EntityFrames
pub mod Runs
