pub mod Around
pub mod Looking
pub mod Ahead
pub mod Shown
pub mod Scenes
pub mod Preparing
pub mod Rosters
