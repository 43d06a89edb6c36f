pub mod Cells
pub mod Columns
pub mod ColumnFrames
pub mod Heads
