-- How many items deeds spend and gain, and that none is lost or made along a run.
pub mod Cells
pub mod Stock
pub mod Spending
pub mod Acts
pub mod Runs
