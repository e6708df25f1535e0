pub mod Windows
pub mod IntProducts
pub mod Biased
pub mod Bounds
