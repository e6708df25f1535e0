pub mod Stretch
pub mod Interval
