pub mod ShardLemmas
pub mod OutcomeLemmas
pub mod LawLemmas
