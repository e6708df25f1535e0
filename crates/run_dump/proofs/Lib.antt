pub mod ShownLemmas
pub mod LawLemmas
