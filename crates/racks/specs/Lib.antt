pub mod Meaning
pub mod Changing
pub mod Packing
pub mod Faults
pub mod Reading
pub mod Filing
pub mod Tables
