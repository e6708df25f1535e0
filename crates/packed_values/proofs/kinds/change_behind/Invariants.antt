use Rattle.std.proofs.Common.{◌≤◌, ◌-◌}
use Rattle.packed_values.proofs.kinds.change_behind.Given as goal

abbrev pub invariant-loop-behind : goal.invariant-loop-behind
invariant-loop-behind l = record {
  order : l.before ≤ l.behind;
  most : l.behind ≤ l.high;
}

abbrev pub decreases-loop-behind : goal.decreases-loop-behind
decreases-loop-behind l = l.behind - l.before
