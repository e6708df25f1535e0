use Rattle.std.proofs.Common.{◌≡◌, ◌*◌, ◌≤◌}
use Rattle.shard_merge.specs.Verdict.{integrations_in, verdict_from}
use Rattle.shard_merge.specs.CompareSteps.{job_places, Knows}
use Rattle.shard_merge.proofs.comparison.compare_scans.Given as goal

abbrev pub invariant-loop-number : goal.invariant-loop-number
invariant-loop-number g l = record {
  few : l.i ≤ l.number * 1099511627776;
  same : g.F.Shelf.told l.shelf ≡ g.F.Shelf.told l.initial.shelf;
  kept : g.F.Shelf.faults l.shelf ≡ g.F.Shelf.faults l.initial.shelf;
  left : Knows (g.F.Shelf.told l.initial.shelf) l.plan l.shards
      (λ keeps. verdict_from l.plan keeps 0 (integrations_in l.plan) ≡ verdict_from l.plan keeps l.i (job_places l.plan l.number));
}
