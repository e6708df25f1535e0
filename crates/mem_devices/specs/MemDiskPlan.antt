-- Which calls of a disk in memory fail.
use Rattle.std.specs.Prelude.{ℕ, ◌+◌, ◌==◌, ◌||◌, min, nat_le, List, Option, Some, None, Bool, false}
use Rattle.std.specs.List.{list_any}

-- The numbers of the calls that fail, from 0; how many calls come before all others fail, where the
-- disk stops; the number of the next call.
pub record MemDiskPlan : Type 0 where
  pub failing : List ℕ
  pub stop_after : Option ℕ
  pub calls : ℕ

-- whether a disk that stops so has stopped at the call of that number
abbrev pub has_stopped : Option ℕ → ℕ → Bool
has_stopped None call = false
has_stopped (Some most) call = nat_le most call

-- whether the next call is to fail
abbrev pub fails_next : MemDiskPlan → Bool
fails_next plan = list_any (λ listed. listed == plan.calls) plan.failing || has_stopped plan.stop_after plan.calls

-- the plan after one call; the number stays at 2 ^ 64 - 1
abbrev pub after_call : MemDiskPlan → MemDiskPlan
after_call plan = record plan { calls = min (plan.calls + 1) 18446744073709551615 }
