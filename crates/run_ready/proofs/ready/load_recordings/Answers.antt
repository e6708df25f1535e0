use Rattle.std.proofs.Common.{◌≡◌, ◌∙◌, None, sym, ap, subst}
use Rattle.std.proofs.lemmas.Result.{err_from_is_err_and, IfOk-weaker}
use Rattle.dev_traits.specs.Told.{WhereTold}
use Rattle.dev_traits.proofs.ToldLemmas.{WhereTold-weaker}
use Rattle.job_plan.specs.declared.plan.Plan.{Plan}
use Rattle.checkpoint_journal.specs.Identity.{identity_of}
use Rattle.run_notes.specs.declared.refusal.Refusal.{Refusal}
use Rattle.run_ready.specs.Due.{IsDue}
use Rattle.run_ready.specs.Identities.{lengths_of}
use Rattle.run_ready.specs.Recordings.{first_foreign, recordings_answer}
use Rattle.run_ready.proofs.ToldLemmas.{WhereTold-moved, WhereTold-then}
use Rattle.run_ready.proofs.StepLemmas.{IfOk-both, IfOk-moved, IfErr-then}
use Rattle.run_ready.proofs.RecordingLemmas.{IsDue-files, IsDue-recordings, recordings_answer-none}
use Rattle.run_ready.proofs.ready.load_recordings.Goals as goal

pub index_survey-requires : goal.index_survey-requires
index_survey-requires g c =
    WhereTold-moved (g.F.Shelf.told c.survey_joined.new.shelf) (g.F.Shelf.told c.args.shelf.now) _ (sym c.survey_joined.ensures.same) c.in_ok-survey.ensures.shelved

pub returns-in_err-survey-clause-due : goal.returns-in_err-survey-clause-due
returns-in_err-survey-clause-due g c =
    let p = err_from_is_err_and c.from_residual.result c.from_residual.ensures.1 in
    rw (p.1, p.2)
    (WhereTold-weaker (g.F.Shelf.told c.args.shelf.now) _ _
    (λ files due. IsDue-files files c.args.joined.plan.stations c.in_err-survey.field-0.0 due) c.in_err-survey.ensures.due)

pub returns-clause-plan : goal.returns-clause-plan
returns-clause-plan g c = IfOk-weaker c.index_survey.result _ _ (λ ready same. same ∙ c.in_ok-survey.ensures.plan) c.index_survey.ensures.plan

pub returns-clause-recorded : goal.returns-clause-recorded
returns-clause-recorded g c = IfOk-moved c.index_survey.result _ c.survey_joined.ensures.same c.index_survey.ensures.recorded

pub returns-clause-identity : goal.returns-clause-identity
returns-clause-identity g c =
    let joined = c.args.joined in
    IfOk-both c.index_survey.result _ _ _
    (λ ready same alike. WhereTold-weaker (g.F.Shelf.told c.args.shelf.now) _ _
    (λ files is. alike ∙ is ∙ ap (λ (p : Plan). identity_of joined.schedule.items joined.text.items (lengths_of files p.stations)) (sym same))
    c.in_ok-survey.ensures.identity)
    c.index_survey.ensures.plan c.index_survey.ensures.identity

pub returns-clause-fit : goal.returns-clause-fit
returns-clause-fit g c =
    let told = g.F.Shelf.told in
    let plan = c.in_ok-survey.survey.plan in
    IfOk-weaker c.index_survey.result (λ _. WhereTold (told c.survey_joined.new.shelf) (λ files. first_foreign files plan.stations ≡ None))
    (λ _. WhereTold (told c.args.shelf.now) (λ files. recordings_answer files c.args.joined.plan.stations ≡ None))
    (λ _ agrees. WhereTold-then (told c.args.shelf.now) (told c.survey_joined.new.shelf) _ _ _
    (λ files fit none. recordings_answer-none files c.args.joined.plan.stations fit
    (subst (λ (p : Plan). first_foreign files p.stations ≡ None) c.in_ok-survey.ensures.plan none))
    c.survey_joined.ensures.same c.in_ok-survey.ensures.fit agrees)
    c.index_survey.ensures.agrees

pub returns-clause-due : goal.returns-clause-due
returns-clause-due g c =
    IfErr-then c.index_survey.result _ _ _
    (λ (r : Refusal) files fit due. IsDue-recordings files c.args.joined.plan.stations r fit
    (subst (λ (p : Plan). IsDue r (first_foreign files p.stations)) c.in_ok-survey.ensures.plan due))
    c.survey_joined.ensures.same c.in_ok-survey.ensures.fit c.index_survey.ensures.due
