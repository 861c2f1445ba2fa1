pub mod Keyed
pub mod Table
