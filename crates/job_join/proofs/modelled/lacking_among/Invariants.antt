use Rattle.std.proofs.Common.{◌≡◌, map, drop}
use Rattle.job_join.specs.Needs.{lacking_among}
use Rattle.job_join.specs.Places.{visit_of}
use Rattle.job_join.proofs.modelled.lacking_among.Given as goal

abbrev pub invariant-loop-place : goal.invariant-loop-place
invariant-loop-place l =
    lacking_among l.need l.job l.rate (map visit_of (drop l.place-index l.places)) ≡ lacking_among l.need l.job l.rate (map visit_of l.places)
