use Rattle.std.proofs.Common.{◌≡◌, ◌+◌, ◌-◌}
use Rattle.shard_merge.specs.Verdict.{verdict_from}
use Rattle.shard_merge.specs.CompareSteps.{scan_places, Knows}
use Rattle.shard_merge.proofs.comparison.compare_scan.Given as goal

abbrev pub invariant-loop-k : goal.invariant-loop-k
invariant-loop-k g l = record {
  same : g.F.Shelf.told l.shelf ≡ g.F.Shelf.told l.initial.shelf;
  kept : g.F.Shelf.faults l.shelf ≡ g.F.Shelf.faults l.initial.shelf;
  left : Knows (g.F.Shelf.told l.initial.shelf) l.plan l.shards
      (λ keeps. verdict_from l.plan keeps l.i (scan_places l.number l.from l.count)
      ≡ verdict_from l.plan keeps (l.i + l.k) (scan_places l.number (l.from + l.k) (l.count - l.k)));
}
