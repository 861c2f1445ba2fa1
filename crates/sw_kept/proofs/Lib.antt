pub mod Appended
pub mod Checkpoints
pub mod Contents
pub mod Opened
