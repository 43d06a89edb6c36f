pub mod Pacing
