pub mod Status
pub mod Sending
pub mod Requests
