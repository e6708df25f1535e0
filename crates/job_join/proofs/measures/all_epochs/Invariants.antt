use Rattle.std.proofs.Common.{◌≡◌, ◌+◌, ◌*◌, ◌^◌, ◌≤◌, map, filter, fold, take}
use Rattle.job_join.specs.declared.places.Place.{Place}
use Rattle.job_join.specs.Measured.{held_epochs}
use Rattle.job_join.proofs.measures.all_epochs.Given as goal

abbrev pub invariant-loop-place : goal.invariant-loop-place
invariant-loop-place l =
    (l.all ≡ fold ◌+◌ 0 (map (held_epochs l.job l.epoch l.rate) (filter (λ (p : Place). p.taken) (take l.place-index l.places)))) × (l.all ≤ l.place-index * 2 ^ 40)
