pub mod Fields
pub mod Metadata
pub mod PlayerChange
pub mod Down
