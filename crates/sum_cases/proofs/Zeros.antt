-- Rows of zeros.
use Rattle.std.proofs.Common.{ℕ, replicate, inl, inr, arith}
use Rattle.std.proofs.lemmas.Bool.{cases_lt}
use Rattle.std.proofs.lemmas.List.{get_or-replicate, get_or_past, length-replicate}
use Rattle.byte_sums.specs.Sums.{AreAtMost}

pub zeros-small : (n most : ℕ) → AreAtMost most (replicate {A = ℕ} n 0)
zeros-small n most i =
    elim (cases_lt i n) [
      | inl inside ↦ omega (arith, get_or-replicate {A = ℕ} n i 0 0 inside)
      | inr past ↦ omega (arith, get_or_past (replicate {A = ℕ} n 0) i 0 (omega (arith, length-replicate {A = ℕ} n 0)))
    ]
