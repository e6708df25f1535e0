pub mod Outcome
pub mod Shards
pub mod Refused
pub mod Jobs
