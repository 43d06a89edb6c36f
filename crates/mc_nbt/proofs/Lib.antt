pub mod Alike
pub mod Fit
pub mod Written
