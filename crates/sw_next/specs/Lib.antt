pub mod Fetching
pub mod Flying
pub mod Free
