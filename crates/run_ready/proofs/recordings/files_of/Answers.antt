use Rattle.std.proofs.Common.{◌∙◌, ◌≤◌, ◌<◌, ◌^◌, length, sym, ap, subst, arith}
use Rattle.std.specs.List.{All}
use Rattle.std.proofs.lemmas.Result.{err_from_is_err_and}
use Rattle.std.proofs.lemmas.Slice.Zip.{AllZip-long}
use Rattle.frame_index.proofs.ToldLemmas.{WhereTold-both}
use Rattle.dev_traits.proofs.ToldLemmas.{WhereTold-weaker}
use Rattle.run_ready.specs.declared.recordings.StationFiles.{StationFiles}
use Rattle.run_ready.specs.Sizes.{IsSizedBy, slots_together}
use Rattle.run_ready.proofs.FilesLemmas.{bound-sized, few-together}
use Rattle.run_ready.proofs.RecordingLemmas.{IsDue-no_file, files_answer-slots, files_answer-none}
use Rattle.run_ready.proofs.recordings.files_of.Goals as goal

pub returns-in_err-sized-clause-due : goal.returns-in_err-sized-clause-due
returns-in_err-sized-clause-due g c =
    let p = err_from_is_err_and c.from_residual.result c.from_residual.ensures.1 in
    rw (p.1, p.2)
    (WhereTold-weaker (g.F.Shelf.told c.args.shelf.now) _ _
    (λ files due. IsDue-no_file files c.args.stations.now c.in_err-sized.field-0.0 due) c.in_err-sized.ensures.due)

pub slots_together-slots-requires-clause-few : goal.slots_together-slots-requires-clause-few
slots_together-slots-requires-clause-few g c =
    omega (arith, ap length c.deref.ensures.value, AllZip-long IsSizedBy c.args.stations.now c.in_ok-sized.sized.items c.in_ok-sized.ensures.sized, c.requires.few)

pub slots_together-slots-requires-clause-bounds : goal.slots_together-slots-requires-clause-bounds
slots_together-slots-requires-clause-bounds g c =
    subst (All (λ (z : StationFiles). z.slots < 2 ^ 96)) (sym c.deref.ensures.value)
    (bound-sized c.args.stations.now c.in_ok-sized.sized.items c.in_ok-sized.ensures.sized)

pub returns-in_err-within-clause-due : goal.returns-in_err-within-clause-due
returns-in_err-within-clause-due g c =
    let p = err_from_is_err_and c.from_residual-in_err-within.result c.from_residual-in_err-within.ensures.1 in
    rw (p.1, p.2, c.in_err-within.ensures.past.1)
    (WhereTold-both (g.F.Shelf.told c.args.shelf.now) _ _ _
    (λ files are none. files_answer-slots files c.args.stations.now c.in_ok-sized.sized.items c.slots_together-slots.result
    c.in_ok-sized.ensures.sized are (c.slots_together-slots.ensures ∙ ap slots_together c.deref.ensures.value) none c.in_err-within.ensures.past.0)
    c.in_ok-sized.ensures.shelved c.in_ok-sized.ensures.there)

pub returns-clause-slots : goal.returns-clause-slots
returns-clause-slots g c =
    let few : slots_together c.in_ok-sized.sized.items ≤ 2 ^ 26 =
    omega (arith, c.slots_together-slots.ensures ∙ ap slots_together c.deref.ensures.value, c.in_ok-within.ensures.within) in
    few-together c.in_ok-sized.sized.items few

pub returns-clause-accepted : goal.returns-clause-accepted
returns-clause-accepted g c =
    WhereTold-both (g.F.Shelf.told c.args.shelf.now) _ _ _
    (λ files are none. files_answer-none files c.args.stations.now c.in_ok-sized.sized.items c.slots_together-slots.result
    c.in_ok-sized.ensures.sized are (c.slots_together-slots.ensures ∙ ap slots_together c.deref.ensures.value) none c.in_ok-within.ensures.within)
    c.in_ok-sized.ensures.shelved c.in_ok-sized.ensures.there
