use Rattle.std.proofs.Common.{◌≡◌, ℕ, ◌<◌, false, get_or}
use Rattle.num_time.specs.Numerals.{is_point}
use Rattle.num_time.proofs.numerals.point_place.Given as goal

abbrev pub invariant-loop-i : goal.invariant-loop-i
invariant-loop-i l = (k : ℕ) → k < l.i → is_point (get_or l.text k 0) ≡ false
