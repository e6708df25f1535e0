pub mod HeldLemmas
pub mod PartsLemmas
pub mod RowLemmas
