mod Lists
mod Faults
mod Gatherings
pub mod Fronts
pub mod Bytes
mod Underway
mod Hex
mod FrameSteps
pub mod ViewSteps
mod Tapes
