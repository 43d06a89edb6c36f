pub mod Kept
pub mod Sitting
pub mod Seats
pub mod Replying
pub mod Beating
pub mod Showing
