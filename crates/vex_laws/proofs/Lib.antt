pub mod KindLemmas
pub mod RowLemmas
pub mod PlaceLemmas
pub mod Steps
pub mod CauseLemmas
pub mod StandLemmas
pub mod CountingLemmas
