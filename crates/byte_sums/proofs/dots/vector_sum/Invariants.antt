-- The sum so far.
use Rattle.std.proofs.Common.{◌≡◌, ◌*◌, length}
use Rattle.std.specs.Simd.Lanes.{sum_l}
use Rattle.byte_sums.specs.Sums.{lag_sum}
use Rattle.byte_sums.proofs.dots.vector_sum.Given as goal

abbrev pub invariant-loop-i : goal.invariant-loop-i
invariant-loop-i l = record {
  sum : sum_l l.sums ≡ lag_sum l.a l.b l.at (32 * l.i);
  lanes : length l.sums ≡ 8;
}
