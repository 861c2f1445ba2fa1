pub mod BatchLemmas
mod BytesLemmas
mod CarryLemmas
pub mod ChangeLemmas
mod CountedLemmas
mod PairLemmas
mod PlaceLemmas
pub mod PlanLemmas
pub mod TableLemmas
mod WalkLemmas
