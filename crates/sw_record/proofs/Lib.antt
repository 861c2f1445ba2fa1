pub mod LineLemmas
pub mod OnLiterals
