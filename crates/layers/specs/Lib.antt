pub mod Over
pub mod Showing
pub mod OverLemmas
pub mod Amending
pub mod Shown
