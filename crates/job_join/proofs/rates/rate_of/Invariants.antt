use Rattle.std.proofs.Common.{◌≡◌, map, drop}
use Rattle.job_join.specs.Places.{visit_of, rate_among}
use Rattle.job_join.proofs.rates.rate_of.Given as goal

abbrev pub invariant-loop-place : goal.invariant-loop-place
invariant-loop-place l = rate_among (map visit_of (drop l.place-index l.places)) ≡ rate_among (map visit_of l.places)
