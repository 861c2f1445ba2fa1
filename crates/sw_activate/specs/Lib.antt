pub mod Answers
pub mod Claiming
pub mod Names
pub mod Running
