use Rattle.std.proofs.Common.{◌≡◌, ℕ, List, take, is_some}
use Rattle.std.specs.List.{list_any}
use Rattle.named_list.specs.Named.{named}
use Rattle.job_join.specs.declared.places.Place.{Place}
use Rattle.job_join.specs.Places.{visit_of, has_key}
use Rattle.job_join.proofs.places.keys_of.Given as goal

abbrev pub invariant-loop-place : goal.invariant-loop-place
invariant-loop-place l = (q : List ℕ) → is_some (named l.set q) ≡ list_any (λ (p : Place). has_key q (visit_of p)) (take l.place-index l.places)
