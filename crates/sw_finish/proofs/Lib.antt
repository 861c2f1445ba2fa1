pub mod Doing
pub mod Fetching
pub mod FirstPreload
pub mod Going
pub mod Preload
pub mod Settling
