use Rattle.std.proofs.Common.{◌≡◌, None, Ok, sym, subst}
use Rattle.std.specs.Prelude.{option_copied}
use Rattle.std.proofs.lemmas.Result.{err_from_is_err_and, IfOk-weaker}
use Rattle.dev_traits.specs.Told.{WhereTold}
use Rattle.dev_traits.proofs.ToldLemmas.{WhereTold-weaker}
use Rattle.job_plan.specs.declared.plan.Plan.{Plan}
use Rattle.run_ready.specs.Recordings.{files_answer}
use Rattle.run_ready.specs.Outcome.{SurveyOf}
use Rattle.run_ready.proofs.ToldLemmas.{WhereTold-then}
use Rattle.run_ready.proofs.StepLemmas.{IfOk-both, IfOk-moved, IfErr-then}
use Rattle.run_ready.proofs.IdentityLemmas.{told-identity}
use Rattle.run_ready.proofs.LaterLemmas.{PlanUnder-found, IsCause-texts, IsCause-found}
use Rattle.run_ready.proofs.ready.survey.Goals as goal

pub returns-in_err-joined-clause-cause : goal.returns-in_err-joined-clause-cause
returns-in_err-joined-clause-cause g c =
    let p = err_from_is_err_and c.from_residual.result c.from_residual.ensures.1 in
    rw (p.1, p.2)
    (WhereTold-weaker (g.F.Shelf.told c.args.shelf.now) _ _
    (λ files cause. IsCause-texts files (files_answer files) c.args.job.now (option_copied c.args.vex) c.args.epoch c.in_err-joined.field-0.0 c.in_err-joined.ensures.stage cause)
    c.in_err-joined.ensures.cause)

pub returns-clause-plan : goal.returns-clause-plan
returns-clause-plan g c =
    let told = g.F.Shelf.told in
    let plan = c.in_ok-joined.joined.plan in
    let vex = option_copied c.args.vex in
    IfOk-both c.survey_joined.result _ (λ _. WhereTold (told c.join.new.shelf) (λ files. files_answer files plan.stations ≡ None)) _
    (λ s same fit. WhereTold-then (told c.args.shelf.now) (told c.join.new.shelf) _ _ _
    (λ files is none. subst (λ (p : Plan). SurveyOf files c.args.job.now vex c.args.epoch (Ok p)) (sym same)
    (PlanUnder-found files (files_answer files) c.args.job.now vex c.args.epoch plan None none is))
    c.join.ensures.same c.in_ok-joined.ensures.plan fit)
    c.survey_joined.ensures.plan c.survey_joined.ensures.fit

pub returns-clause-cause : goal.returns-clause-cause
returns-clause-cause g c =
    IfErr-then c.survey_joined.result _ _ _
    (λ r files is due. IsCause-found files (files_answer files) c.args.job.now (option_copied c.args.vex) c.args.epoch c.in_ok-joined.joined.plan r is due)
    c.join.ensures.same c.in_ok-joined.ensures.plan c.survey_joined.ensures.due

pub returns-clause-shelved : goal.returns-clause-shelved
returns-clause-shelved g c = IfOk-moved c.survey_joined.result _ c.join.ensures.same c.survey_joined.ensures.shelved

pub returns-clause-identity : goal.returns-clause-identity
returns-clause-identity g c =
    let told = g.F.Shelf.told in
    let joined = c.in_ok-joined.joined in
    IfOk-weaker c.survey_joined.result _ _
    (λ s is. told-identity (told c.args.shelf.now) (told c.join.new.shelf) c.args.job.now (option_copied c.args.vex) joined.schedule.items joined.text.items s.identity s.plan.stations
    c.join.ensures.same c.in_ok-joined.ensures.schedule c.in_ok-joined.ensures.text is)
    c.survey_joined.ensures.identity
