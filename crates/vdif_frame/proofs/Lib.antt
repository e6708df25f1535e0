pub mod Ranges
pub mod Samples
pub mod Places
pub mod Bytes
