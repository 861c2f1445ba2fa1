pub mod Drawn
pub mod Promised
pub mod Tasks
pub mod Preloaded
