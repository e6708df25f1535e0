use Rattle.std.proofs.Common.{false, ap, ◌∙◌}
use Rattle.std.proofs.lemmas.List.{take_all}
use Rattle.std.specs.List.{list_any}
use Rattle.job_join.specs.declared.places.Place.{Place}
use Rattle.job_join.specs.Places.{visit_of, has_key}
use Rattle.job_join.proofs.Sets.{any-turn}
use Rattle.job_join.proofs.places.keys_of.Goals as goal

pub loop-place-preserved : goal.loop-place-preserved
loop-place-preserved c q =
    any-turn (λ (p : Place). has_key q (visit_of p)) false c.args.places.now c.loop-place.place-index c.place-item.result _ _ c.loop-place-test.true c.place-item.is (c.loop-place.invariant q) (c.in_ok-keep_place.ensures q)

pub returns : goal.returns
returns c q =
    c.loop-place.invariant q ∙ ap (list_any (λ (p : Place). has_key q (visit_of p))) (take_all c.loop-place.place-index c.args.places.now c.loop-place-test.false)
