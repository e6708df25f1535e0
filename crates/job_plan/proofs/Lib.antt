pub mod PairLemmas
pub mod HeadRanges
pub mod FirstLemmas
