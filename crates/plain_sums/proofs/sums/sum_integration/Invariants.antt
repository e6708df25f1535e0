use Rattle.std.proofs.Common.{◌≡◌, ◌-◌, ◌≤◌, length}
use Rattle.plain_sums.proofs.SumLemmas.{AreOf}
use Rattle.plain_sums.proofs.sums.sum_integration.Given as goal

abbrev pub invariant-loop-at : goal.invariant-loop-at
invariant-loop-at g l = record {
  begun : l.from ≤ l.at;
  within : l.at ≤ l.to;
  held : length l.lags.items ≡ l.plan.lags;
  same : g.F.Shelf.told l.shelf ≡ g.F.Shelf.told l.initial.shelf;
  kept : g.F.Shelf.faults l.shelf ≡ g.F.Shelf.faults l.initial.shelf;
  cells : AreOf l.plan l.scan (g.F.Shelf.told l.initial.shelf) l.from l.at l.cells;
}

abbrev pub decreases-loop-at : goal.decreases-loop-at
decreases-loop-at g l = l.to - l.at
