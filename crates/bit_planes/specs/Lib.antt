pub mod Planes
pub mod Shown
pub mod Held
pub mod Coded
