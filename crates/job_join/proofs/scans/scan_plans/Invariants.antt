use Rattle.std.proofs.Common.{◌≡◌, map, filter, take}
use Rattle.named_list.specs.Named.{names}
use Rattle.job_join.specs.declared.places.Place.{Place}
use Rattle.job_join.specs.Joined.{scan_plan}
use Rattle.job_join.specs.Planned.{has_baseline}
use Rattle.job_join.proofs.scans.scan_plans.Given as goal

abbrev pub invariant-loop-place : goal.invariant-loop-place
invariant-loop-place l =
    l.all.items ≡ filter has_baseline (map (λ (p : Place). scan_plan l.j.job.now l.j.rate (names l.j.channels) p.scan.now) (filter (λ (p : Place). p.taken) (take l.place-index l.j.places.items)))
