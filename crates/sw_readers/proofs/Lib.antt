pub mod DivisionLemmas
pub mod DivisionRows
pub mod ImportRows
pub mod RosterRows
pub mod WatchedRows
