pub mod Drawing
pub mod Results
pub mod Promising
pub mod Tasking
pub mod Preloading
