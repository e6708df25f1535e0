-- The plan of faults of a device in memory: its calls are numbered from 0, and those listed fail.
use Rattle.std.specs.Prelude.{ℕ, ◌+◌, ◌==◌, min, List, Bool, true, false}
use Rattle.std.specs.List.{list_any}

-- whether the call of that number is to fail
abbrev pub fails_at : List ℕ → ℕ → Bool
fails_at failing call = list_any (λ listed. listed == call) failing

-- a count of calls or faults after one more, which stays at 2 ^ 64 - 1
abbrev pub next_count : ℕ → ℕ
next_count count = min (count + 1) 18446744073709551615

-- the count of faults after a call that failed or did not
abbrev pub faults_after : Bool → ℕ → ℕ
faults_after true faults = next_count faults
faults_after false faults = faults
