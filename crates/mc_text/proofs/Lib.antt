pub mod Growing
pub mod Cuts
pub mod Reading
pub mod DigitSteps
pub mod Passing
