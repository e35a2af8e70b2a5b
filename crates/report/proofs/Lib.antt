pub mod Splices
pub mod Pages
pub mod Made
pub mod Lengths
pub mod Reporting
pub mod Answering
