pub mod Changed
pub mod Counted
pub mod Parts
pub mod Idle
pub mod Opened
