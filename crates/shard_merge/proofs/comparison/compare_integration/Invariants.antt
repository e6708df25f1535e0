use Rattle.std.proofs.Common.{◌≡◌, take}
use Rattle.shard_merge.specs.CompareSteps.{IsWithin, cells_of, Knows, Stands}
use Rattle.shard_merge.proofs.comparison.compare_integration.Given as goal

abbrev pub invariant-loop-shard : goal.invariant-loop-shard
invariant-loop-shard g l = record {
  within : IsWithin 4194304 l.found.least;
  same : g.F.Shelf.told l.shelf ≡ g.F.Shelf.told l.initial.shelf;
  kept : g.F.Shelf.faults l.shelf ≡ g.F.Shelf.faults l.initial.shelf;
  stands : Knows (g.F.Shelf.told l.initial.shelf) l.plan l.shards
      (λ keeps. Stands l.found l.first (cells_of l.plan l.number l.m (take l.shard-index keeps)));
}
