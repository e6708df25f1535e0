use Rattle.std.proofs.Common.{◌≡◌, ◌*◌, pos, neg_ℤ, ◌≤ℤ◌}
use Rattle.lag_kernel.specs.Parts.{dot_of}
use Rattle.lag_kernel.proofs.sums.dot.Given as goal

abbrev pub invariant-loop-k : goal.invariant-loop-k
invariant-loop-k l = record {
  sum : l.sum ≡ dot_of l.a l.b l.i l.k;
  low : neg_ℤ (pos (225 * l.k)) ≤ℤ l.sum;
  high : l.sum ≤ℤ pos (225 * l.k);
}
