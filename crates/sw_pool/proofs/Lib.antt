pub mod Crossing
pub mod EndLemmas
pub mod KnownLemmas
pub mod LookLemmas
pub mod WorkLemmas
