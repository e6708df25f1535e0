use Rattle.std.proofs.Common.{◌≡◌, drop}
use Rattle.shard_merge.specs.Covers.{follow}
use Rattle.shard_merge.specs.CoverageOrder.{epochs_of_listed}
use Rattle.shard_merge.proofs.coverage.follow.Given as goal

abbrev pub invariant-loop-a : goal.invariant-loop-a
invariant-loop-a l = follow l.fn.from l.to (epochs_of_listed l.kept) ≡ follow l.at l.to (epochs_of_listed (drop l.a-index l.kept))
