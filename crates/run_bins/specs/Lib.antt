pub mod Texts
pub mod Outcome
pub mod Jobs
pub mod Rows
pub mod Writes
