pub mod Faults
pub mod Numbers
pub mod Options
pub mod Orders
