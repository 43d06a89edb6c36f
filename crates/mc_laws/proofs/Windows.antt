-- Who is shown a chest, along all that players do.
pub mod Watching
pub mod Same
pub mod Clicks
pub mod Closing
pub mod Viewers
pub mod Games
