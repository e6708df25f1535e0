use Rattle.std.proofs.Common.{◌≡◌, drop}
use Rattle.shard_merge.specs.Verdict.{difference}
use Rattle.shard_merge.proofs.comparison.difference.Given as goal

abbrev pub invariant-loop-at : goal.invariant-loop-at
invariant-loop-at l = difference 0 l.first l.other ≡ difference l.at (drop l.at l.first) (drop l.at l.other)
