pub mod VaryLemmas
pub mod ValueLemmas
