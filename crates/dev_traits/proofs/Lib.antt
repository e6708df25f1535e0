pub mod Appended
pub mod Moments
pub mod ToldLemmas
