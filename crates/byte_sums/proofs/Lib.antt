pub mod Weights
pub mod Chunks
pub mod Places
pub mod Clamped
pub mod Small
pub mod Joined
pub mod Halves
pub mod Evens
