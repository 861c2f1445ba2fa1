pub mod HistoryLemmas
pub mod LawLemmas
pub mod OnLiterals
pub mod Places
mod Situations
