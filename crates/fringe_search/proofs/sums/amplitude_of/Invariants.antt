use Rattle.std.proofs.Common.{◌≡◌, ◌*◌, ◌≤◌}
use Rattle.fringe_search.specs.Sums.{size_over}
use Rattle.fringe_search.proofs.sums.amplitude_of.Given as goal

abbrev pub invariant-loop-m : goal.invariant-loop-m
invariant-loop-m l = record {
  sum : l.sum ≡ size_over l.series l.lag l.m;
  within : l.sum ≤ 18446744073709551616 * l.m;
}
