use Rattle.std.proofs.Common.{◌≡◌, ◌≤◌}
use Rattle.lag_kernel.specs.Parts.{both_of}
use Rattle.lag_kernel.proofs.sums.both.Given as goal

abbrev pub invariant-loop-k : goal.invariant-loop-k
invariant-loop-k l = record {
  sum : l.sum ≡ both_of l.a l.b l.i l.k;
  most : l.sum ≤ l.k;
}
