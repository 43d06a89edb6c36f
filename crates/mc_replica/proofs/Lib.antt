pub mod Asked
pub mod ChunkFaults
pub mod Dumping
pub mod PlayerRows
pub mod Records
pub mod Rows
pub mod Sections
pub mod Spots
