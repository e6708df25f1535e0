pub mod Head
pub mod Rows
pub mod Image
pub mod Difference
pub mod Laws
pub mod Finding
