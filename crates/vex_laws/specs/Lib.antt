pub mod Kinds
pub mod Rows
pub mod Places
pub mod Stands
pub mod Causes
pub mod Counting
