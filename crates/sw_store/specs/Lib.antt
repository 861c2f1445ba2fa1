pub mod Groups
pub mod Opened
pub mod Stores
