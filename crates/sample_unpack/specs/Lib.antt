pub mod Level
pub mod Packed
