pub mod Faults
pub mod Laying
pub mod Pocketing
pub mod Laid
