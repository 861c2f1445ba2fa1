pub mod Called
pub mod Keeping
pub mod Planned
pub mod Plans
pub mod Running
