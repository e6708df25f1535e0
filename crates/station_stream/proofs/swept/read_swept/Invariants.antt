use Rattle.std.proofs.Common.{◌≡◌, ◌+◌, ◌≤◌, ◌-◌, min, max}
use Rattle.station_stream.specs.Swept.{AreSwept}
use Rattle.station_stream.proofs.swept.read_swept.Given as goal

abbrev pub invariant-loop-at : goal.invariant-loop-at
invariant-loop-at g l = record {
  same : g.F.Shelf.told l.shelf ≡ g.F.Shelf.told l.initial.shelf;
  faults : g.F.Shelf.faults l.shelf ≡ g.F.Shelf.faults l.initial.shelf;
  begun : min (max l.part.from l.fn.window.from) (l.fn.window.from + l.fn.window.count) ≤ l.at;
  swept : AreSwept (g.F.Shelf.told l.initial.shelf) l.part l.fn.window.from l.at l.sweeps.items;
}

abbrev pub decreases-loop-at : goal.decreases-loop-at
decreases-loop-at g l = l.to - l.at
