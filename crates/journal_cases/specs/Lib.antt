pub mod Few
pub mod Group
pub mod Standing
