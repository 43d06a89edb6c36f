pub mod Asking
pub mod Inputs
pub mod Listing
pub mod Looks
pub mod ReadyColumns
pub mod Served
pub mod Stands
pub mod Ticking
