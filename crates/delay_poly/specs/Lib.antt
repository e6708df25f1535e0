pub mod Held
pub mod Nested
