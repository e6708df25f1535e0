pub mod BinLemmas
pub mod CellLemmas
pub mod EdgeLemmas
pub mod EntryLemmas
pub mod ReadLemmas
