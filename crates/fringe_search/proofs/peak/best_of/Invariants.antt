use Rattle.fringe_search.specs.Best.{IsBest}
use Rattle.fringe_search.proofs.peak.best_of.Given as goal

abbrev pub invariant-loop-lag : goal.invariant-loop-lag
invariant-loop-lag l = IsBest l.series l.grid l.lag 0 l.best
