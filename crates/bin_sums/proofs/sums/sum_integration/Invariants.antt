use Rattle.std.proofs.Common.{◌≡◌, ◌-◌, ◌≤◌}
use Rattle.bin_sums.specs.Ahead.{IsAheadOf}
use Rattle.bin_sums.proofs.IntegrationLemmas.{AreOf}
use Rattle.bin_sums.proofs.sums.sum_integration.Given as goal

abbrev pub invariant-loop-at : goal.invariant-loop-at
invariant-loop-at g l = record {
  begun : l.from ≤ l.at;
  within : l.at ≤ l.to;
  same : g.F.Shelf.told l.shelf ≡ g.F.Shelf.told l.initial.shelf;
  kept : g.F.Shelf.faults l.shelf ≡ g.F.Shelf.faults l.initial.shelf;
  ahead : IsAheadOf (g.F.Shelf.told l.initial.shelf) l.ready l.ahead;
  cells : AreOf l.ready.plan l.bins l.scan (g.F.Shelf.told l.initial.shelf) l.from l.at l.cells;
}

abbrev pub decreases-loop-at : goal.decreases-loop-at
decreases-loop-at g l = l.to - l.at
