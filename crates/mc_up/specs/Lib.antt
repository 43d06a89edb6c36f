pub mod PlayUp
