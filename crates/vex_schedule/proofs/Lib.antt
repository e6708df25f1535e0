pub mod Lists
pub mod Names
pub mod Setups
pub mod Reading
pub mod Given
pub mod Coverings
pub mod LawLemmas
