pub mod Loads
pub mod Places
pub mod Touched
pub mod ColumnFrames
pub mod TouchedColumns
