pub mod Sector
pub mod Table
