pub mod FrontLemmas
pub mod StretchLemmas
