use Rattle.std.proofs.Common.{◌≡◌}
use Rattle.fringe_search.specs.Layout.{records_before}
use Rattle.fringe_search.proofs.series.records_before.Given as goal

abbrev pub invariant-loop-i : goal.invariant-loop-i
invariant-loop-i l = l.before ≡ records_before l.head l.i
