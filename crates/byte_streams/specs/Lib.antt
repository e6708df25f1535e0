pub mod Values
pub mod Streams
pub mod Levels
pub mod Rows
