pub mod StatusText
pub mod Playing
