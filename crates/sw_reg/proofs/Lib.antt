pub mod Placed
pub mod Indexing
