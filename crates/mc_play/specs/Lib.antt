pub mod Acting
pub mod Admitting
pub mod Census
pub mod Codes
pub mod Kept
pub mod Named
pub mod Picking
