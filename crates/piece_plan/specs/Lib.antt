pub mod Parts
pub mod Epochs
pub mod Counts
pub mod Order
pub mod Limited
pub mod Pieces
pub mod Sums
