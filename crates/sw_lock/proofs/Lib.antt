pub mod Views
pub mod Stands
pub mod Turns
pub mod Turning
pub mod Dealing
pub mod Gathering
