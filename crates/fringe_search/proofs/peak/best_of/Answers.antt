use Rattle.std.proofs.Common.{◌≡◌, ℕ, subst, arith}
use Rattle.fringe_search.specs.Best.{IsBest}
use Rattle.fringe_search.proofs.peak.best_of.Goals as goal

pub returns : goal.returns
returns c =
    let all : c.loop-lag.lag ≡ c.args.series.now.lags = omega arith in
    record { best = subst (λ (n : ℕ). IsBest c.args.series.now c.args.grid.now n 0 c.loop-lag.best) all c.loop-lag.invariant }
