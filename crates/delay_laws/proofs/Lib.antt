pub mod StretchLemmas
pub mod OnlyLemmas
pub mod ListLemmas
