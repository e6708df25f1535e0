pub mod SearchedLemmas
pub mod LawLemmas
