use Rattle.std.proofs.Common.{◌+◌, option_map, Option, [], arith, subst, sym, refl}
use Rattle.std.specs.Prelude.{IfSome}
use Rattle.std.proofs.lemmas.Option.{slice_get_within}
use Rattle.piece_plan.specs.Epochs.{epochs_of}
use Rattle.plan_places.specs.declared.place.Place.{Place as Spot}
use Rattle.plan_places.specs.Places.{place_at, IsPlace}
use Rattle.plan_places.specs.Walk.{AreLeft}
use Rattle.plan_places.proofs.CountedLemmas.{last-BeginsAt}
use Rattle.plan_places.proofs.WholeWalks.{left-some}
use Rattle.plan_places.proofs.count.left.Goals as goal

pub returns-in-None : goal.returns-in-None
returns-in-None c =
    subst (λ (o : Option Spot). AreLeft c.args.plan.now c.args.epoch (option_map place_at o) 0) (sym c.in-None.is)
    (record { epochs = []; walk = refl; many = refl })

pub left_from-requires-clause-begin : goal.left_from-requires-clause-begin
left_from-requires-clause-begin c =
    last-BeginsAt c.args.plan.now c.integration_last-i.result.0 _ c.integration_last-i.result.1 c.integration_last-i.ensures.job c.integration_last-i.ensures.at c.integration_last-i.ensures.last

pub left_from-requires-clause-within : goal.left_from-requires-clause-within
left_from-requires-clause-within c =
    let inside = slice_get_within (epochs_of c.args.plan.now) c.integration_last-i.result.0 c.integration_last-i.result.1 c.integration_last-i.ensures.at in
    omega (arith, inside)

pub returns-in-Some : goal.returns-in-Some
returns-in-Some c =
    let place = subst (λ (o : Option Spot). IfSome o (λ p. IsPlace c.args.plan.now (place_at p))) c.in-Some.is c.requires.place in
    subst (λ (o : Option Spot). AreLeft c.args.plan.now c.args.epoch (option_map place_at o) (c.div_ceil.result + c.left_from.result)) (sym c.in-Some.is)
    (left-some c.args.plan.now c.args.epoch c.integration_last-i.result.0 c.div_ceil.result c.left_from.result (place_at c.in-Some.p) c.integration_last-i.result.1
    c.integration_last-i.ensures.job c.requires.some c.requires.short place c.integration_last-i.ensures.last c.integration_last-i.ensures.next c.div_ceil.ensures c.left_from.ensures.count)
