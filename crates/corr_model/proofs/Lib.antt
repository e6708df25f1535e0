pub mod CellLemmas
pub mod SlotLemmas
pub mod RecordLemmas
