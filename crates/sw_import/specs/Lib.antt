pub mod Checking
pub mod Lines
pub mod Pairs
pub mod Counting
