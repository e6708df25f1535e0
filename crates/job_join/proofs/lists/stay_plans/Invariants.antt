use Rattle.std.proofs.Common.{◌≡◌, map, take}
use Rattle.named_list.specs.Named.{names}
use Rattle.job_join.specs.Joined.{stay_plan}
use Rattle.job_join.specs.declared.stands.Here.{Here}
use Rattle.job_join.specs.Places.{stand_of}
use Rattle.job_join.proofs.lists.stay_plans.Given as goal

abbrev pub invariant-loop-here : goal.invariant-loop-here
invariant-loop-here l = l.all.items ≡ map (λ (h : Here). stay_plan l.rate (names l.channels) (stand_of h)) (take l.here-index l.stands)
