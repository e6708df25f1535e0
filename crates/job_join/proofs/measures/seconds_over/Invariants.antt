use Rattle.std.proofs.Common.{◌≡◌, nat_lt, map, filter, find, drop}
use Rattle.job_join.specs.declared.places.Place.{Place}
use Rattle.job_join.specs.Measured.{held_seconds}
use Rattle.job_join.proofs.measures.seconds_over.Given as goal

abbrev pub invariant-loop-place : goal.invariant-loop-place
invariant-loop-place l =
    find (λ n. nat_lt l.most n) (map (held_seconds l.rate) (filter (λ (p : Place). p.taken) (drop l.place-index l.places)))
    ≡ find (λ n. nat_lt l.most n) (map (held_seconds l.rate) (filter (λ (p : Place). p.taken) l.places))
