pub mod Events
pub mod Placed
