-- Stretches of samples on which something stays the same.
use Rattle.std.specs.Prelude.{◌≡◌, ◌≢◌, ℕ, ◌<◌, ◌≤◌}

-- the samples from `from` up to, not including, `end` are the longest stretch before `to` on which f is as at `from`
pub record IsStretch {X : Type 0} (f : ℕ → X) (from to end : ℕ) : Type 0 where
  pub after : from < end
  pub within : end ≤ to
  pub same : (n : ℕ) → from ≤ n → n < end → f n ≡ f from
  pub longest : end < to → f end ≢ f from

-- P is so at the samples from `from` up to, not including, `end`, and it is not at `end` where that is before `to`
pub record IsExit (P : ℕ → Type 0) (from to end : ℕ) : Type 0 where
  pub after : from < end
  pub within : end ≤ to
  pub holds : (n : ℕ) → from ≤ n → n < end → P n
  pub ends : end < to → ¬ (P end)
