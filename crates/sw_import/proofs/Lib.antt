pub mod Pairing
pub mod Drawing
pub mod Printing
pub mod Rows
