use Rattle.std.proofs.Common.{ℕ, ◌^◌, ◌<◌}
use Rattle.fringe_search.specs.Sums.{amplitude_at}
use Rattle.fringe_search.proofs.limit.first_large.Given as goal

abbrev pub invariant-loop-lag : goal.invariant-loop-lag
invariant-loop-lag l = (k : ℕ) → k < l.lag → amplitude_at l.series k < 2 ^ 49
