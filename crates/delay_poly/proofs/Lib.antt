pub mod Floors
pub mod Holding
pub mod Nesting
