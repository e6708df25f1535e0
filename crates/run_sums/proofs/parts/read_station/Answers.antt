use Rattle.std.proofs.Common.{◌≡◌, ◌∙◌, ◌<◌, Some, length, refl, ap, sym, subst, arith}
use Rattle.std.specs.List.{slice_get}
use Rattle.std.proofs.lemmas.Option.{same_Some, slice_get_read}
use Rattle.std.proofs.lemmas.Result.{IfOk-weaker}
use Rattle.job_plan.specs.declared.plan.StayPlan.{StayPlan}
use Rattle.station_stream.specs.StayFrames.{HoldStay}
use Rattle.station_stream.proofs.StayLemmas.{is_some-stay_of}
use Rattle.run_sums.proofs.parts.read_station.Goals as goal

pub read-requires-clause-stands : goal.read-requires-clause-stands
read-requires-clause-stands g c =
    let there : c.args.place < length c.items.result.now = omega (arith, ap length c.items.ensures) in
    let at = slice_get_read c.items.result.now _ c.args.place c.index-items-place.result refl there c.index-items-place.is in
    is_some-stay_of c.args.scan.now c.args.place c.index-items-place.result
    (ap (λ stays. slice_get stays c.args.place) (sym c.items.ensures) ∙ at)

pub returns-clause-held : goal.returns-clause-held
returns-clause-held g c =
    let told = g.F.Shelf.told c.args.shelf.now in
    let there : c.args.place < length c.items.result.now = omega (arith, ap length c.items.ensures) in
    let at = slice_get_read c.items.result.now _ c.args.place c.index-items-place.result refl there c.index-items-place.is in
    let own : slice_get c.args.scan.now.stays c.args.place ≡ Some c.index-items-place.result = ap (λ stays. slice_get stays c.args.place) (sym c.items.ensures) ∙ at in
    IfOk-weaker c.read.result _ _
    (λ f held stay is.
    subst (λ (s : StayPlan). HoldStay told c.args.plan.now c.args.scan.now s c.args.recordings.now f)
    (same_Some c.index-items-place.result stay (sym own ∙ is)) held)
    c.read.ensures.held
