use Rattle.std.proofs.Common.{◌∙◌, ℕ, false, List, Option, None, sym}
use Rattle.std.proofs.lemmas.Result.{err_from_is_err_and, IfOk-weaker, IfErr-weaker}
use Rattle.dev_traits.proofs.ToldLemmas.{WhereTold-weaker}
use Rattle.frame_index.proofs.ToldLemmas.{WhereTold-always}
use Rattle.corr_model.specs.Files.{Files}
use Rattle.scan_list.specs.declared.scan.Scan.{Scan}
use Rattle.job_text.specs.Job.{JobFields}
use Rattle.job_plan.specs.declared.plan.Plan.{Plan}
use Rattle.run_notes.specs.Refusals.{Outcomes}
use Rattle.run_ready.specs.Steps.{Then}
use Rattle.run_ready.specs.Outcome.{ScheduleOf, JobOf, Joins}
use Rattle.run_ready.proofs.ToldLemmas.{WhereTold-moved}
use Rattle.run_ready.proofs.IdentityLemmas.{bytes_under-there}
use Rattle.run_ready.proofs.StepLemmas.{IfErr-both, IsOfFiles-texts, CountsReads-texts, Told-first, Told-next, Told-done}
use Rattle.run_ready.proofs.job.join_beside.Goals as goal

-- what a job comes to behind the scans of its schedule
abbrev behind : List ℕ → Option ℕ → Files → List Scan → Outcomes Plan
behind job epoch files scans = Then (JobOf files job false) (λ (fields : JobFields). Joins (λ stations. None) fields epoch scans)

pub returns-in_err-schedule-clause-cause : goal.returns-in_err-schedule-clause-cause
returns-in_err-schedule-clause-cause g c =
    let told = g.F.Shelf.told in
    let p = err_from_is_err_and c.from_residual.result c.from_residual.ensures.1 in
    rw (p.1, p.2)
    (Told-first (told c.args.shelf.now) c.in_err-schedule.field-0.0
    (λ files. ScheduleOf files c.args.vex.now) (behind c.args.job.now c.args.epoch)
    c.in_err-schedule.ensures.stage c.in_err-schedule.ensures.cause)

pub returns-in_err-read-clause-cause : goal.returns-in_err-read-clause-cause
returns-in_err-read-clause-cause g c =
    let told = g.F.Shelf.told in
    let p = err_from_is_err_and c.from_residual-in_err-read.result c.from_residual-in_err-read.ensures.1 in
    rw (p.1, p.2)
    (Told-next (told c.args.shelf.now) (told c.load_schedule.new.shelf) c.in_err-read.field-0.0
    (λ files. ScheduleOf files c.args.vex.now) (behind c.args.job.now c.args.epoch)
    c.in_ok-schedule.schedule.list.scans c.load_schedule.ensures.same c.in_err-read.ensures.stage c.in_ok-schedule.ensures.scans
    (Told-first (told c.load_schedule.new.shelf) c.in_err-read.field-0.0
    (λ files. JobOf files c.args.job.now false) (λ files (fields : JobFields). Joins (λ stations. None) fields c.args.epoch c.in_ok-schedule.schedule.list.scans)
    c.in_err-read.ensures.stage c.in_err-read.ensures.cause))

pub returns-clause-plan : goal.returns-clause-plan
returns-clause-plan g c =
    let told = g.F.Shelf.told in
    IfOk-weaker c.joins.result _ _
    (λ j is. Told-done (told c.args.shelf.now) (told c.load_schedule.new.shelf)
    (λ files. ScheduleOf files c.args.vex.now) (behind c.args.job.now c.args.epoch)
    c.in_ok-schedule.schedule.list.scans j.plan c.load_schedule.ensures.same c.in_ok-schedule.ensures.scans
    (Told-done (told c.load_schedule.new.shelf) (told c.load_job.new.shelf)
    (λ files. JobOf files c.args.job.now false) (λ files (fields : JobFields). Joins (λ stations. None) fields c.args.epoch c.in_ok-schedule.schedule.list.scans)
    c.in_ok-read.read.job j.plan c.load_job.ensures.same c.in_ok-read.ensures.job
    (WhereTold-always (told c.load_job.new.shelf) _ (λ files. is))))
    c.joins.ensures.plan

pub returns-clause-cause : goal.returns-clause-cause
returns-clause-cause g c =
    let told = g.F.Shelf.told in
    IfErr-both c.joins.result _ _ _
    (λ r stage cause. Told-next (told c.args.shelf.now) (told c.load_schedule.new.shelf) r
    (λ files. ScheduleOf files c.args.vex.now) (behind c.args.job.now c.args.epoch)
    c.in_ok-schedule.schedule.list.scans c.load_schedule.ensures.same (IsOfFiles-texts r stage) c.in_ok-schedule.ensures.scans
    (Told-next (told c.load_schedule.new.shelf) (told c.load_job.new.shelf) r
    (λ files. JobOf files c.args.job.now false) (λ files (fields : JobFields). Joins (λ stations. None) fields c.args.epoch c.in_ok-schedule.schedule.list.scans)
    c.in_ok-read.read.job c.load_job.ensures.same (IsOfFiles-texts r stage) c.in_ok-read.ensures.job
    (WhereTold-always (told c.load_job.new.shelf) _ (λ files. cause))))
    c.joins.ensures.stage c.joins.ensures.cause

pub returns-clause-stage : goal.returns-clause-stage
returns-clause-stage g c = IfErr-weaker c.joins.result _ _ IsOfFiles-texts c.joins.ensures.stage

pub returns-clause-counts : goal.returns-clause-counts
returns-clause-counts g c = CountsReads-texts c.joins.result _ _ c.joins.ensures.stage (c.in_ok-read.ensures.counts ∙ c.in_ok-schedule.ensures.counts)

pub returns-clause-schedule : goal.returns-clause-schedule
returns-clause-schedule g c =
    let told = g.F.Shelf.told in
    IfOk-weaker c.joins.result _ _
    (λ j is. WhereTold-weaker (told c.args.shelf.now) _ _
    (λ files there. is ∙ sym (bytes_under-there files c.args.vex.now c.in_ok-schedule.schedule.text.items there)) c.in_ok-schedule.ensures.text)
    c.joins.ensures.schedule

pub returns-clause-text : goal.returns-clause-text
returns-clause-text g c =
    let told = g.F.Shelf.told in
    IfOk-weaker c.joins.result _ _
    (λ j is. WhereTold-moved (told c.args.shelf.now) (told c.load_schedule.new.shelf) _ c.load_schedule.ensures.same
    (WhereTold-weaker (told c.load_schedule.new.shelf) _ _
    (λ files there. is ∙ sym (bytes_under-there files c.args.job.now c.in_ok-read.read.text.items there)) c.in_ok-read.ensures.text))
    c.joins.ensures.text
