pub mod Stretches
pub mod Runs
