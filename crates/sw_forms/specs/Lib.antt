pub mod Caches
pub mod Exchanges
pub mod Fetches
pub mod Flaws
pub mod Members
pub mod Refusals
pub mod Words
