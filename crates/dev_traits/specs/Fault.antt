-- A device's count of faults.
use Rattle.std.specs.Prelude.{◌≡◌, ℕ, ◌+◌, ◌≤◌, min, Result, OnOk, OnErr}

-- The count rose. A count at its last value, 2 ^ 64 - 1, counts as risen.
abbrev pub HasRisen : ℕ → ℕ → Type 0
HasRisen before now = min (before + 1) 18446744073709551615 ≤ now

-- A call fails only where the count rose in it, leaves it as it was with any other answer, and
-- never lowers it.
pub record Counts {T E : Type 0} (before now : ℕ) (result : Result T E) : Type 0 where
  pub kept : OnOk result (now ≡ before)
  pub risen : OnErr result (HasRisen before now)
  pub no_fall : before ≤ now
