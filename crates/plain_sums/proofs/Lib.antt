pub mod PlaceLemmas
pub mod ValuesLemmas
pub mod AddLemmas
pub mod ReachLemmas
pub mod SumLemmas
