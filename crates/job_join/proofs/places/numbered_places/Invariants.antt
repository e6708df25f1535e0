use Rattle.std.proofs.Common.{◌≡◌, map, take}
use Rattle.job_join.specs.Places.{visit_in, visit_of}
use Rattle.job_join.proofs.places.numbered_places.Given as goal

abbrev pub invariant-loop-scan : goal.invariant-loop-scan
invariant-loop-scan l = map visit_of l.places.items ≡ map (visit_in l.job) (take l.scan-index l.scans)
