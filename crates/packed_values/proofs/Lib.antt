pub mod Lanes
pub mod Tables
pub mod Bits
pub mod Cuts
pub mod Fields
pub mod Small
