pub mod PairLemmas
pub mod PlaceLemmas
pub mod FoundLemmas
pub mod ReachLemmas
pub mod FrameLemmas
pub mod MadeLemmas
pub mod SumsLemmas
