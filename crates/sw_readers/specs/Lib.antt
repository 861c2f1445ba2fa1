pub mod Division
pub mod Imports
pub mod Roster
pub mod Watched
