pub mod Text
pub mod Writing
pub mod Pages
pub mod Reports
pub mod Listings
