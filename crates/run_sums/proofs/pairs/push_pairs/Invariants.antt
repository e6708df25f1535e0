use Rattle.std.proofs.Common.{◌≡◌, ◌++◌, map, take}
use Rattle.run_sums.specs.Pairs.{placed_pair}
use Rattle.run_sums.proofs.pairs.push_pairs.Given as goal

abbrev pub invariant-loop-b : goal.invariant-loop-b
invariant-loop-b l = l.pairs.items ≡ l.initial.pairs.items ++ map (placed_pair l.scan l.p) (take l.b-index l.baselines)
