pub mod Keeping
pub mod Spelling
pub mod Stored
