pub mod GateLemmas
pub mod KeptLemmas
pub mod WalkLemmas
pub mod AheadLemmas
pub mod ExtendLemmas
pub mod RefusedLemmas
pub mod RoomLemmas
