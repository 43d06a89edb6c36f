pub mod PlayUpLaws
