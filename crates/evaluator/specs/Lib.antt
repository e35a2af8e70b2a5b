pub mod Faults
pub mod Numbers
pub mod Answers
pub mod Matters
pub mod Laws
pub mod Finding
