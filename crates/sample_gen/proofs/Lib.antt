pub mod WordLemmas
pub mod FrameLemmas
pub mod JobLemmas
