pub mod Answer
pub mod Counted
pub mod Kept
pub mod Places
pub mod Reading
pub mod Refused
pub mod Store
