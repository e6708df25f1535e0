pub mod Parsing
pub mod Counts
