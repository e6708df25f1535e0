-- Samples that the lags of an epoch reach.
use Rattle.std.proofs.Common.{◌≡◌, ℕ, ◌+◌, ◌-◌, ◌/◌, ◌%◌, ◌<◌, ◌≤◌, min, ℤ, pos, ◌+ℤ◌, ◌-ℤ◌, ◌≤ℤ◌, ◌<ℤ◌, true, int_le, int_lt, arith}
use Rattle.std.proofs.lemmas.Int.{ints}
use Rattle.corr_model.specs.Cell.{is_inside}

-- a sample number from `from` up to, not including, `to`
pub record IsIn (n : ℤ) (from to : ℕ) : Type 0 where
  pub begun : pos from ≤ℤ n
  pub under : n <ℤ pos to

-- the epoch's own samples
pub inside-epoch : (from to lags samples n : ℕ) → 2 ≤ lags → to ≤ samples → from ≤ n → n < to
    → IsIn (pos n) (from - lags / 2) (min samples (to + (lags / 2 - 1)))
inside-epoch from to lags samples n some inside begun under = record { begun = omega (arith, ints); under = omega (arith, ints) }

-- the samples that are a lag away, inside the scan
pub inside-lagged : (from to lags samples n i : ℕ) → lags % 2 ≡ 0 → from ≤ n → n < to → i < lags
    → is_inside (pos n +ℤ (pos i -ℤ pos (lags / 2))) samples ≡ true
    → IsIn (pos n +ℤ (pos i -ℤ pos (lags / 2))) (from - lags / 2) (min samples (to + (lags / 2 - 1)))
inside-lagged from to lags samples n i even begun under lag inside =
    let m : ℤ = pos n +ℤ (pos i -ℤ pos (lags / 2)) in
    let low : int_le (pos 0) m ≡ true = grind (arith, ints) in
    let high : int_lt m (pos samples) ≡ true = grind (arith, ints) in
    record { begun = omega (arith, ints, low, high); under = omega (arith, ints, low, high) }
