use Rattle.std.proofs.Common.{List, ◌∷◌}
use Rattle.fringe_search.specs.declared.places.SeriesAt.{SeriesAt}
use Rattle.fringe_search.specs.Certificates.{AtPeak, from_lag}
use Rattle.fringe_search.specs.Fronts.{IsRead}
use Rattle.fringe_search.proofs.Reading.{claim_of}
use Rattle.fringe_search.proofs.check.check_series.Given as goal

abbrev pub invariant-loop-lag : goal.invariant-loop-lag
invariant-loop-lag l =
    (left : List SeriesAt) → IsRead l.vis (AtPeak l.grid (l.fn.at ∷ left)) l.text (from_lag l.vis.head.lags (claim_of l.grid l.fn.at l.peak) l.lag left) l.rest
