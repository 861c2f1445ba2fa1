pub mod Appends
pub mod Happened
pub mod Reopening
pub mod Spelled
