-- That after each tick clients show the game that they were handed.
pub mod Later
pub mod Links
pub mod Drawn
pub mod Showing
