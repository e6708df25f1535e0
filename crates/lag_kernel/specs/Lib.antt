pub mod Held
pub mod Parts
pub mod Planes
pub mod Rows
