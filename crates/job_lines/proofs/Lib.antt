pub mod LineLemmas
pub mod RowLemmas
pub mod SecondLemmas
pub mod WholeLemmas
