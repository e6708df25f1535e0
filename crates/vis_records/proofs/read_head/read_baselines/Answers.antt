use Rattle.std.proofs.Common.{◌≡◌, [], ◌∷◌, ◌++◌, length, map, rules, ap, subst, ◌∙◌}
use Rattle.std.specs.Prelude.{slice_get, ◌-◌}
use Rattle.std.proofs.lemmas.List.{map-append}
use Rattle.vis_records.specs.Heads.{baseline_of}
use Rattle.vis_records.specs.Parts.{Took, StopsBy}
use Rattle.vis_records.specs.Reading.{baseline, last_of}
use Rattle.vis_records.proofs.PartLemmas.{stops-first, turns-next, turns-stop, one_more-took}
use Rattle.vis_records.proofs.HeadReading.{last_of-map}
use Rattle.vis_records.proofs.FieldLemmas.{passed-on}
use Rattle.vis_records.proofs.read_head.read_baselines.Goals as goal

pub returns-in_err-one-clause-stops : goal.returns-in_err-one-clause-stops
returns-in_err-one-clause-stops c =
    passed-on _ c.from_residual.result c.in_err-one.field-0.0 c.from_residual.ensures.1
    (turns-stop _ _ _ c.args.count c.loop-i.i c.loop-i-test.true c.loop-i.invariant
    (stops-first _ (subst (λ before. StopsBy (baseline c.args.stations before c.loop-i.rest) c.in_err-one.field-0.0)
    (last_of-map c.loop-i.baselines.items c.copied-before.result (c.copied-before.ensures ∙ c.last.ensures.value ∙ ap (λ bs. slice_get bs (length bs - 1)) c.deref.ensures.value)) c.in_err-one.ensures.stops)))

pub loop-i-preserved : goal.loop-i-preserved
loop-i-preserved c =
    let items : c.push.new.self.items ≡ c.loop-i.baselines.items ++ c.in_ok-one.one ∷ [] = search rules in
    let grown = ap (map baseline_of) items ∙ map-append baseline_of c.loop-i.baselines.items (c.in_ok-one.one ∷ []) in
    turns-next _ _ _ c.args.count c.loop-i.i c.loop-i-test.true c.loop-i.invariant
    (one_more-took (λ before. baseline c.args.stations (last_of before)) c.loop-i.i c.loop-i.rest grown (subst (λ before. baseline c.args.stations before c.loop-i.rest ≡ Took (baseline_of c.in_ok-one.one) c.read_baseline.new.rest)
    (last_of-map c.loop-i.baselines.items c.copied-before.result (c.copied-before.ensures ∙ c.last.ensures.value ∙ ap (λ bs. slice_get bs (length bs - 1)) c.deref.ensures.value)) c.in_ok-one.ensures.took))
