use Rattle.std.proofs.Common.{◌≡◌, ◌<◌, ◌≤◌, ℕ, ℤ, Option, option_map, get_or}
use Rattle.value_codes.specs.Codes.{value_of, turned_by}
use Rattle.value_codes.specs.Taken.{IsTaken}
use Rattle.station_stream.proofs.turned.turn_codes.Given as goal

abbrev pub invariant-loop-code : goal.invariant-loop-code
invariant-loop-code l = record {
  turned : (k : ℕ) (level : Option ℤ) → k < l.code-index → IsTaken (get_or l.initial.codes k 0) level
      → value_of (get_or l.codes k 0) ≡ option_map (λ x. turned_by x l.direction) level;
  left : (k : ℕ) → l.code-index ≤ k → get_or l.codes k 0 ≡ get_or l.initial.codes k 0;
}
