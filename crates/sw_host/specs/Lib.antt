pub mod Bounding
pub mod Generating
pub mod Reading
pub mod Runs
pub mod Stands
pub mod Texts
pub mod Watching
pub mod Words
