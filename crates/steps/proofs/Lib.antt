pub mod SetOfs
pub mod Gathering
pub mod Filled
pub mod Firing
pub mod Opposing
pub mod Readiness
pub mod Subsets
