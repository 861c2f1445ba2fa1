pub mod Left
pub mod Picked
pub mod Recorded
