pub mod Said
pub mod Tried
