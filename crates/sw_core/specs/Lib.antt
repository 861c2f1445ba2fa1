pub mod Keeping
pub mod Machines
pub mod Parts
pub mod Restored
pub mod Rows
