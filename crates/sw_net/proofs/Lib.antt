pub mod Noting
pub mod Drawing
