pub mod State
pub mod Moves
pub mod Invariant
pub mod Events
pub mod Laws
pub mod Shown
