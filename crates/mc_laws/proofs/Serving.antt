-- That a lobby is served in turns as it is promised.
pub mod Logs
pub mod Forgetting
pub mod Turns
pub mod Serves
