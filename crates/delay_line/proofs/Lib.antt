pub mod Floors
pub mod Lines
pub mod Intervals
pub mod Exits
pub mod Stretches
