-- What each packet of a player makes of a game.
pub mod Topics
pub mod Clicks
pub mod ActMade
pub mod ActOn
