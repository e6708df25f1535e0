use Rattle.std.proofs.Common.{ℕ, ◌<◌, pos, ◌-ℤ◌}
use Rattle.fringe_search.specs.Sums.{power_at}
use Rattle.fringe_search.specs.Peaks.{Leads}
use Rattle.fringe_search.proofs.claim.leads_from.Given as goal

abbrev pub invariant-loop-n : goal.invariant-loop-n
invariant-loop-n l = (k : ℕ) → k < l.n → Leads (power_at l.series l.grid.divide) l.peak.lag l.peak.rate l.lag (pos k -ℤ pos l.grid.rates)
