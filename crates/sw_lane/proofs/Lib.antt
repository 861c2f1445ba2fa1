pub mod ActionEvents
pub mod Finding
pub mod Following
pub mod Saying
