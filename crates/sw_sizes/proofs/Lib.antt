pub mod Lengths
pub mod Totals
pub mod PartsLemmas
pub mod RowLemmas
pub mod CountedLemmas
