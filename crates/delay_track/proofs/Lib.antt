pub mod Polynomials
pub mod Samples
pub mod Clocks
pub mod Knots
pub mod Stretches
pub mod AllSamples
pub mod Pieces
pub mod StretchLemmas
