pub mod AgainLemmas
pub mod KeyLemmas
pub mod ResolvedLemmas
