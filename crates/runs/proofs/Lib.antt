pub mod Sessions
pub mod Listings
pub mod Compared
