mod Appends
mod FreshParts
mod ParseSteps
pub mod PartChanges
pub mod PartLemmas
pub mod ReadLemmas
pub mod WholeParts
