pub mod OutcomeLemmas
pub mod LawLemmas
pub mod PartLemmas
