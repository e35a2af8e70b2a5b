pub mod Faults
pub mod Overrules
pub mod Grading
