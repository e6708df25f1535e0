use Rattle.std.proofs.Common.{◌≡◌, ◌∙◌, true, List, length, None, Ok, sym, ap, subst, arith}
use Rattle.std.proofs.lemmas.List.{length-map}
use Rattle.std.proofs.lemmas.Result.{err_from_is_err_and, IfOk-weaker, IfErr-weaker}
use Rattle.dev_traits.proofs.ToldLemmas.{WhereTold-weaker}
use Rattle.frame_index.proofs.ToldLemmas.{WhereTold-always}
use Rattle.scan_list.specs.declared.scan.Scan.{Scan}
use Rattle.job_text.specs.Inline.{scans_of}
use Rattle.run_notes.specs.Refusals.{IsCause}
use Rattle.run_ready.specs.Outcome.{JobOf, Joins}
use Rattle.run_ready.proofs.IdentityLemmas.{bytes_under-there}
use Rattle.run_ready.proofs.StepLemmas.{IfErr-both, IsOfFiles-texts, CountsReads-texts, Told-first, Told-next, Told-done}
use Rattle.run_ready.proofs.job.join_inline.Goals as goal

pub returns-in_err-read-clause-cause : goal.returns-in_err-read-clause-cause
returns-in_err-read-clause-cause g c =
    let p = err_from_is_err_and c.from_residual.result c.from_residual.ensures.1 in
    rw (p.1, p.2)
    (Told-first (g.F.Shelf.told c.args.shelf.now) c.in_err-read.field-0.0
    (λ files. JobOf files c.args.job.now true) (λ files fields. Joins (λ stations. None) fields c.args.epoch (scans_of fields))
    c.in_err-read.ensures.stage c.in_err-read.ensures.cause)

pub returns-clause-plan : goal.returns-clause-plan
returns-clause-plan g c =
    IfOk-weaker c.joins.result _ _
    (λ j is. Told-done (g.F.Shelf.told c.args.shelf.now) (g.F.Shelf.told c.load_job.new.shelf)
    (λ files. JobOf files c.args.job.now true) (λ files fields. Joins (λ stations. None) fields c.args.epoch (scans_of fields))
    c.in_ok-read.read.job j.plan c.load_job.ensures.same c.in_ok-read.ensures.job
    (WhereTold-always (g.F.Shelf.told c.load_job.new.shelf) _
    (λ files. subst (λ (scans : List Scan). Joins (λ stations. None) c.in_ok-read.read.job c.args.epoch scans (Ok j.plan)) c.in_ok-list.ensures is)))
    c.joins.ensures.plan

pub returns-clause-cause : goal.returns-clause-cause
returns-clause-cause g c =
    IfErr-both c.joins.result _ _ _
    (λ r stage cause. Told-next (g.F.Shelf.told c.args.shelf.now) (g.F.Shelf.told c.load_job.new.shelf) r
    (λ files. JobOf files c.args.job.now true) (λ files fields. Joins (λ stations. None) fields c.args.epoch (scans_of fields))
    c.in_ok-read.read.job c.load_job.ensures.same (IsOfFiles-texts r stage) c.in_ok-read.ensures.job
    (WhereTold-always (g.F.Shelf.told c.load_job.new.shelf) _
    (λ files. subst (λ (scans : List Scan). IsCause r (Joins (λ stations. None) c.in_ok-read.read.job c.args.epoch scans)) c.in_ok-list.ensures cause)))
    c.joins.ensures.stage c.joins.ensures.cause

pub returns-in_err-list-clause-cause : goal.returns-in_err-list-clause-cause
returns-in_err-list-clause-cause g c =
    let p = err_from_is_err_and c.from_residual-in_err-list.result c.from_residual-in_err-list.ensures.1 in
    rw (p.1, p.2) (WhereTold-always (g.F.Shelf.told c.args.shelf.now) _ (λ files. tt))

pub returns-in_err-list-clause-stage : goal.returns-in_err-list-clause-stage
returns-in_err-list-clause-stage g c =
    let p = err_from_is_err_and c.from_residual-in_err-list.result c.from_residual-in_err-list.ensures.1 in
    rw (p.1, p.2) tt

pub returns-in_err-list-clause-counts : goal.returns-in_err-list-clause-counts
returns-in_err-list-clause-counts g c =
    let p = err_from_is_err_and c.from_residual-in_err-list.result c.from_residual-in_err-list.ensures.1 in
    rw (p.1, p.2) c.in_ok-read.ensures.counts

pub returns-clause-stage : goal.returns-clause-stage
returns-clause-stage g c = IfErr-weaker c.joins.result _ _ IsOfFiles-texts c.joins.ensures.stage

pub returns-clause-counts : goal.returns-clause-counts
returns-clause-counts g c = CountsReads-texts c.joins.result _ _ c.joins.ensures.stage c.in_ok-read.ensures.counts

pub joins-requires-clause-few_scans : goal.joins-requires-clause-few_scans
joins-requires-clause-few_scans g c =
    let same : length c.in_ok-list.list.scans ≡ length c.in_ok-read.read.job.scans = ap length c.in_ok-list.ensures ∙ length-map c.in_ok-read.read.job.scans _ in
    omega (arith, same, c.in_ok-read.ensures.few_scans)

pub returns-clause-schedule : goal.returns-clause-schedule
returns-clause-schedule g c =
    IfOk-weaker c.joins.result _ _ (λ j is. WhereTold-always (g.F.Shelf.told c.args.shelf.now) _ (λ files. is ∙ c.new-text.ensures.items)) c.joins.ensures.schedule

pub returns-clause-text : goal.returns-clause-text
returns-clause-text g c =
    IfOk-weaker c.joins.result _ _
    (λ j is. WhereTold-weaker (g.F.Shelf.told c.args.shelf.now) _ _
    (λ files there. is ∙ sym (bytes_under-there files c.args.job.now c.in_ok-read.read.text.items there)) c.in_ok-read.ensures.text)
    c.joins.ensures.text

pub joins-requires-clause-short_schedule : goal.joins-requires-clause-short_schedule
joins-requires-clause-short_schedule g c = omega (arith, ap length c.new-text.ensures.items)
