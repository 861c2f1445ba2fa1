pub mod Counting
pub mod Entries
pub mod LawLemmas
pub mod Longest
pub mod Worked
