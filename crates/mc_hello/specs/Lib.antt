pub mod Hand
pub mod StatusUp
pub mod StatusDown
pub mod LoginUp
pub mod LoginDown
