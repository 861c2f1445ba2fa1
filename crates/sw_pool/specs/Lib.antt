pub mod Looks
pub mod Yards
