pub mod Carried
pub mod Lists
pub mod Players
pub mod LineFrames
pub mod Seeing
pub mod Encoding
