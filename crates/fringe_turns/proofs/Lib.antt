pub mod QuotientLemmas
pub mod Eighths
pub mod Products
pub mod Rooms
pub mod LineLemmas
