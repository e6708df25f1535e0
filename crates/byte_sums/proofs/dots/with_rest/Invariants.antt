-- The sum so far.
use Rattle.std.proofs.Common.{◌≡◌}
use Rattle.byte_sums.specs.Sums.{lag_sum}
use Rattle.byte_sums.proofs.dots.with_rest.Given as goal

abbrev pub invariant-loop-i : goal.invariant-loop-i
invariant-loop-i l = l.all ≡ lag_sum l.a l.b l.at l.i
