pub mod Lines
pub mod Links
pub mod Kept
pub mod Tables
pub mod Ready
