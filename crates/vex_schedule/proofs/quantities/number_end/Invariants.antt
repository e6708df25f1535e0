use Rattle.std.proofs.Common.{◌≡◌, ℕ, ◌<◌, false, get_or}
use Rattle.vex_schedule.specs.Quantities.{ends_number}
use Rattle.vex_schedule.proofs.quantities.number_end.Given as goal

abbrev pub invariant-loop-i : goal.invariant-loop-i
invariant-loop-i l = (k : ℕ) → k < l.i → ends_number (get_or l.text k 0) ≡ false
