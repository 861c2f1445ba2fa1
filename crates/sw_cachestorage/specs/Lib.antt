pub mod Actions
pub mod Acts
pub mod Added
pub mod Adding
pub mod Faults
pub mod Forgetting
pub mod Places
