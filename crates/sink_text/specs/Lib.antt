pub mod Appends
pub mod Written
pub mod Pieces
