pub mod Answers
pub mod HttpAddress
pub mod Pages
