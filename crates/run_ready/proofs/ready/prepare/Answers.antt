use Rattle.std.proofs.Common.{◌≡◌, ◌∙◌, None, Ok, sym, ap, subst}
use Rattle.std.specs.Prelude.{option_copied}
use Rattle.std.proofs.lemmas.Result.{err_from_is_err_and}
use Rattle.dev_traits.specs.Told.{WhereTold}
use Rattle.dev_traits.proofs.ToldLemmas.{WhereTold-weaker}
use Rattle.job_plan.specs.declared.plan.Plan.{Plan}
use Rattle.run_ready.specs.Recordings.{first_foreign}
use Rattle.run_ready.specs.Identities.{identity_under}
use Rattle.run_ready.specs.Outcome.{PlanOf}
use Rattle.run_ready.proofs.ToldLemmas.{WhereTold-moved, WhereTold-then}
use Rattle.run_ready.proofs.StepLemmas.{IfOk-both, IfOk-moved, IfErr-then}
use Rattle.run_ready.proofs.LaterLemmas.{PlanOf-plan, IsCause-surveyed, IsCause-foreign}
use Rattle.run_ready.proofs.ready.prepare.Goals as goal

pub index_survey-requires : goal.index_survey-requires
index_survey-requires g c =
    let told = g.F.Shelf.told in
    WhereTold-moved (told c.survey.new.shelf) (told c.args.shelf.now) _ (sym c.survey.ensures.same) c.in_ok-survey.ensures.shelved

pub returns-in_err-survey-clause-cause : goal.returns-in_err-survey-clause-cause
returns-in_err-survey-clause-cause g c =
    let p = err_from_is_err_and c.from_residual.result c.from_residual.ensures.1 in
    rw (p.1, p.2)
    (WhereTold-weaker (g.F.Shelf.told c.args.shelf.now) _ _
    (λ files cause. IsCause-surveyed files c.args.job.now (option_copied c.args.vex) c.args.epoch c.in_err-survey.field-0.0 c.in_err-survey.ensures.stage cause) c.in_err-survey.ensures.cause)

pub returns-clause-plan : goal.returns-clause-plan
returns-clause-plan g c =
    let told = g.F.Shelf.told in
    let plan = c.in_ok-survey.survey.plan in
    IfOk-both c.index_survey.result _ (λ _. WhereTold (told c.survey.new.shelf) (λ files. first_foreign files plan.stations ≡ None)) _
    (λ ready same held. WhereTold-then (told c.args.shelf.now) (told c.survey.new.shelf) _ _ _
    (λ files is none. subst (λ (p : Plan). PlanOf files c.args.job.now (option_copied c.args.vex) c.args.epoch (Ok p)) (sym same) (PlanOf-plan files c.args.job.now (option_copied c.args.vex) c.args.epoch plan None none is))
    c.survey.ensures.same c.in_ok-survey.ensures.plan held)
    c.index_survey.ensures.plan c.index_survey.ensures.agrees

pub returns-clause-recorded : goal.returns-clause-recorded
returns-clause-recorded g c = IfOk-moved c.index_survey.result _ c.survey.ensures.same c.index_survey.ensures.recorded

pub returns-clause-identity : goal.returns-clause-identity
returns-clause-identity g c =
    IfOk-both c.index_survey.result _ _ _
    (λ ready same alike. WhereTold-weaker (g.F.Shelf.told c.args.shelf.now) _ _
    (λ files is. alike ∙ is ∙ ap (λ (p : Plan). identity_under files c.args.job.now (option_copied c.args.vex) p) (sym same)) c.in_ok-survey.ensures.identity)
    c.index_survey.ensures.plan c.index_survey.ensures.identity

pub returns-clause-cause : goal.returns-clause-cause
returns-clause-cause g c =
    IfErr-then c.index_survey.result _ _ _
    (λ r files is due. IsCause-foreign files c.args.job.now (option_copied c.args.vex) c.args.epoch c.in_ok-survey.survey.plan r is due)
    c.survey.ensures.same c.in_ok-survey.ensures.plan c.index_survey.ensures.due
