pub mod Bounding
pub mod Replays
