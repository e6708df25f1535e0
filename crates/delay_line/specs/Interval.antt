-- Intervals of delays, in units of 2^-32 sample.
use Rattle.std.specs.Prelude.{◌≡◌, ◌^◌, ◌<◌, unsigned_abs, ℤ, ◌≤ℤ◌, ◌<ℤ◌}

-- x is one of the delays from `least` up to, not including, `end`
pub record IsIn (least end x : ℤ) : Type 0 where
  pub not_before : least ≤ℤ x
  pub before_end : x <ℤ end

-- Of the delays that there are, those at which f is as at x are the ones from `least` up to, not including, `end`.
pub record IsIntervalOf {X : Type 0} (f : ℤ → X) (x least end : ℤ) : Type 0 where
  pub same : (y : ℤ) → IsIn least end y → f y ≡ f x
  pub all : (y : ℤ) → unsigned_abs y < 2 ^ 59 → f y ≡ f x → IsIn least end y
