pub mod Lent
pub mod Linked
pub mod Parts
pub mod Shifts
pub mod Happened
pub mod Ends
