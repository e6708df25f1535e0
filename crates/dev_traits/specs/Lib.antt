pub mod Fault
pub mod Files
pub mod Images
pub mod Moments
pub mod Told
