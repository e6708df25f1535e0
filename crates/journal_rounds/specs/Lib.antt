pub mod Extended
pub mod Refused
pub mod Counted
pub mod Room
pub mod Epochs
pub mod Ahead
pub mod Steps
