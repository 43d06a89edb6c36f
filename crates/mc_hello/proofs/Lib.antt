pub mod HandLaws
pub mod StatusUpLaws
pub mod StatusDownLaws
pub mod LoginUpLaws
pub mod LoginDownLaws
pub mod Wider
