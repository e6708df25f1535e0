use Rattle.fringe_search.specs.Best.{IsBest}
use Rattle.fringe_search.proofs.peak.best_from.Given as goal

abbrev pub invariant-loop-n : goal.invariant-loop-n
invariant-loop-n l = IsBest l.series l.grid l.lag l.n l.best
