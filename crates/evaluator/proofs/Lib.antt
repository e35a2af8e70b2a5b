pub mod Readiness
pub mod Between
pub mod Numbering
pub mod Tries
pub mod Findings
pub mod Surveyed
pub mod Lawful
