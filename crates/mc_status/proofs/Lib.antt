pub mod Seats
pub mod Answered
pub mod Received
pub mod Lines
pub mod Texts
