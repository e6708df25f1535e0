pub mod Direction
pub mod Turns
pub mod Eighths
pub mod Lines
