pub mod FaultText
pub mod Kinds
pub mod Numbers
pub mod Shift
pub mod Plans
pub mod Folk
pub mod Kept
