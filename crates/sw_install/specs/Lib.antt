pub mod Answers
pub mod Underway
pub mod Fetches
pub mod Runs
