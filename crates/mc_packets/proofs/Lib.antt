pub mod DownLaws
pub mod Begun
