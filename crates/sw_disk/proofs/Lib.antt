mod Doubts
mod Lifted
mod Marks
mod Moved
mod PickSteps
pub mod Images
pub mod Moments
pub mod Stages
pub mod Tears
