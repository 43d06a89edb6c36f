mod Counted
mod Sendable
