pub mod Latest
pub mod Index
