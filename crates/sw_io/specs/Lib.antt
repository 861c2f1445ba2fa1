pub mod Memory
pub mod Taking
