use Rattle.std.proofs.Common.{arith}
use Rattle.fringe_search.proofs.Steps.{best_past}
use Rattle.fringe_search.proofs.peak.after_lag.Goals as goal

pub returns-then-bound_of-best : goal.returns-then-bound_of-best
returns-then-bound_of-best c = record { best = best_past c.args.series.now c.args.grid.now c.args.lag c.args.best c.requires.best (omega arith) }
