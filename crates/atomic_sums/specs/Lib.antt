pub mod Views
pub mod Rule
pub mod Sums
pub mod Seats
pub mod Fields
