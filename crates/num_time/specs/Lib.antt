pub mod Numbers
pub mod Numerals
pub mod Times
pub mod Grammar
