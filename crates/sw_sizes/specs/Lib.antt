pub mod Usage
pub mod Laws
pub mod Rows
pub mod Counted
