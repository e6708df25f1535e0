use Rattle.std.specs.Prelude.{option_copied}
use Rattle.std.proofs.Common.{◌≡◌, ℕ, List, refl, subst}
use Rattle.std.proofs.lemmas.Result.{err_from_is_err_and, IfErr-weaker}
use Rattle.dev_traits.specs.Told.{WhereTold}
use Rattle.journal_image.specs.Image.{KeptEpoch}
use Rattle.run_notes.specs.Refusals.{IsCause}
use Rattle.run_notes.proofs.CommandLemmas.{verdict-refused, verdict-written, memory-refused, stage-output}
use Rattle.run_ready.proofs.TellLemmas.{tells-refused, stage-files}
use Rattle.run_ready.proofs.ToldLemmas.{WhereTold-moved}
use Rattle.run_merge.specs.Outcome.{merged_text, MergeOf}
use Rattle.run_merge.specs.Jobs.{IsMergeOf}
use Rattle.run_merge.proofs.OutcomeLemmas.{tells-written}
use Rattle.run_merge.proofs.command.write_merge.Goals as goal

pub returns-in_err-merge-clause-tells : goal.returns-in_err-merge-clause-tells
returns-in_err-merge-clause-tells g c =
    let told = g.F.Shelf.told in
    let r = c.in_err-merge.field-0.0 in
    let job = c.args.job.now in
    let vex = option_copied c.args.vex in
    let p = err_from_is_err_and c.from_residual.result c.from_residual.ensures.1 in
    rw (p.1, p.2)
    (tells-refused (told c.args.shelf.now) (λ files. MergeOf files job vex c.args.files.now) (λ files. merged_text) (g.S.Sink.told c.args.out.now) r
    c.in_err-merge.ensures.stage
    (subst (λ (names : List (List ℕ)). WhereTold (told c.args.shelf.now) (λ files. IsCause r (MergeOf files job vex names))) c.items.ensures
    c.in_err-merge.ensures.cause))

pub returns-in_err-merge-clause-nothing : goal.returns-in_err-merge-clause-nothing
returns-in_err-merge-clause-nothing g c =
    let p = err_from_is_err_and c.from_residual.result c.from_residual.ensures.1 in
    rw (p.1, p.2) (verdict-refused c.in_err-merge.field-0.0 _ refl)

pub returns-in_err-merge-clause-unwritten : goal.returns-in_err-merge-clause-unwritten
returns-in_err-merge-clause-unwritten g c =
    let p = err_from_is_err_and c.from_residual.result c.from_residual.ensures.1 in
    rw (p.1, p.2) (memory-refused c.in_err-merge.field-0.0 _ refl)

pub returns-in_err-merge-clause-stage : goal.returns-in_err-merge-clause-stage
returns-in_err-merge-clause-stage g c =
    let p = err_from_is_err_and c.from_residual.result c.from_residual.ensures.1 in
    rw (p.1, p.2) (stage-files c.in_err-merge.field-0.0 c.in_err-merge.ensures.stage)

pub returns-clause-tells : goal.returns-clause-tells
returns-clause-tells g c =
    let told = g.F.Shelf.told in
    let m = c.in_ok-merge.merge in
    let job = c.args.job.now in
    let vex = option_copied c.args.vex in
    tells-written job vex c.args.files.now m (told c.args.shelf.now) (g.S.Sink.told c.args.out.now) (g.S.Sink.told c.written.new.out)
    c.written.result
    (subst
    (λ (names : List (List ℕ)). WhereTold (told c.args.shelf.now) (λ files. (keeps : List (List KeptEpoch)) × IsMergeOf files job vex names m keeps))
    c.items.ensures c.in_ok-merge.ensures.merge)
    (WhereTold-moved (told c.args.shelf.now) (told c.load_merge.new.shelf) _ c.load_merge.ensures.same c.written.ensures.written)
    c.written.ensures.stage

pub returns-clause-nothing : goal.returns-clause-nothing
returns-clause-nothing g c =
    IfErr-weaker c.written.result _ _ (λ r stage. verdict-written r (g.S.Sink.told c.written.new.out ≡ g.S.Sink.told c.args.out.now) stage)
    c.written.ensures.stage

pub returns-clause-stage : goal.returns-clause-stage
returns-clause-stage g c = IfErr-weaker c.written.result _ _ stage-output c.written.ensures.stage
