pub mod BoardLemmas
pub mod StandLemmas
