pub mod Lists
pub mod Places
pub mod Keeping
pub mod Copying
pub mod StampMarks
pub mod StampRows
pub mod Placing
pub mod Counting
pub mod FindLemmas
pub mod IndexLemmas
mod BareLemmas
mod MarkLemmas
mod RowLemmas
pub mod DigestLemmas
pub mod Tallies
