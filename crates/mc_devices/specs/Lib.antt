pub mod Edge
pub mod Limits
pub mod Sockets
pub mod Linked
