pub mod QuotientLemmas
pub mod DigitLemmas
pub mod TimeLemmas
pub mod NumeralLemmas
pub mod GrammarLemmas
