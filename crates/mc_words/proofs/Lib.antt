pub mod Scripts
pub mod ArgumentSteps
pub mod Finishes
pub mod Delivering
