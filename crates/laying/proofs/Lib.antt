pub mod Answered
pub mod Pocketed
