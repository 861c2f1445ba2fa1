pub mod Grammar
pub mod Lanes
