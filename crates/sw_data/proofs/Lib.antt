pub mod CutLemmas
pub mod OnLiterals
