pub mod Active
pub mod Acts
pub mod Fits
pub mod Jobs
pub mod Listed
pub mod Named
