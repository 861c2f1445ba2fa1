pub mod Apart
pub mod CacheLemmas
pub mod Entries
pub mod LawLemmas
pub mod Rebuilt
pub mod Sound
