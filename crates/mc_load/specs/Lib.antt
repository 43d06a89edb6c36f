pub mod Framed
pub mod Load
