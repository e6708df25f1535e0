pub mod ByteLemmas
pub mod CodeLemmas
pub mod FieldLemmas
pub mod TakeLemmas
pub mod VectorLemmas
