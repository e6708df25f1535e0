pub mod Measures
pub mod Answers
pub mod Refusals
pub mod Counted
pub mod Commands
