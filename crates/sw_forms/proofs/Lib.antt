pub mod OnLiterals
pub mod OnlyListed
pub mod PartLemmas
