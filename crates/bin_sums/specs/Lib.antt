pub mod Binned
pub mod Range
pub mod Ahead
