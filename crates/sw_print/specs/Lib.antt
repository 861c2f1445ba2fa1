pub mod Showing
pub mod Transcript
