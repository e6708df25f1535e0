pub mod Found
pub mod Pairs
pub mod Reach
pub mod Frames
pub mod Sums
