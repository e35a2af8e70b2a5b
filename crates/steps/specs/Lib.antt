pub mod Parts
pub mod Ruling
pub mod Claiming
pub mod Modelling
pub mod Subsets
