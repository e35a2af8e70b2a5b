pub mod Purse
pub mod Running
pub mod Comparing
