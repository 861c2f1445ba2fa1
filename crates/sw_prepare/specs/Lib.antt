pub mod Held
pub mod Kept
pub mod Laws
pub mod OfJobs
pub mod Paged
pub mod Taking
pub mod Telling
