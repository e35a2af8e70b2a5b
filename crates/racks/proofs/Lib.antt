pub mod Laid
pub mod Looked
pub mod Chosen
pub mod Packings
pub mod SheetReading
pub mod Files
pub mod Listed
pub mod Unique
