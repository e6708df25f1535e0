pub mod Heads
pub mod Parts
pub mod Content
pub mod Reading
pub mod Laws
pub mod KindName
pub mod Dumped
pub mod Dumping
