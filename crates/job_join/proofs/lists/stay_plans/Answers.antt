use Rattle.std.proofs.Common.{map, ap, refl, ◌∙◌}
use Rattle.std.proofs.lemmas.List.{take_all}
use Rattle.named_list.specs.Named.{names}
use Rattle.job_join.specs.declared.stands.Here.{Here}
use Rattle.job_join.specs.Joined.{stay_plan}
use Rattle.job_join.specs.Places.{stand_of}
use Rattle.job_join.proofs.PlansLemmas.{map-next}
use Rattle.job_join.proofs.lists.stay_plans.Goals as goal

pub loop-here-preserved : goal.loop-here-preserved
loop-here-preserved c =
    map-next (λ (h : Here). stay_plan c.args.rate (names c.args.channels.now) (stand_of h)) c.args.stands.now c.args.stands.now c.loop-here.here-index c.here-item.result c.in_ok-plan.plan
    c.loop-here.all.items c.push.new.self.items refl c.loop-here-test.true c.here-item.is c.in_ok-plan.ensures c.loop-here.invariant c.in_ok-push.ensures.items

pub returns : goal.returns
returns c =
    c.loop-here.invariant ∙ ap (map (λ (h : Here). stay_plan c.args.rate (names c.args.channels.now) (stand_of h))) (take_all c.loop-here.here-index c.args.stands.now c.loop-here-test.false)
