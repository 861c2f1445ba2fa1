pub mod Table
pub mod Edits
pub mod Fits
pub mod Kept
pub mod ByKey
