use Rattle.std.proofs.Common.{◌≡◌, ◌∙◌, ℕ, List, length, sym, ap, ap₂, subst, arith}
use Rattle.std.specs.List.{All}
use Rattle.std.proofs.lemmas.Result.{err_from_is_err_and}
use Rattle.dev_traits.proofs.ToldLemmas.{WhereTold-weaker}
use Rattle.job_plan.specs.declared.plan.StationPlan.{StationPlan}
use Rattle.job_plan.specs.declared.plan.Plan.{Plan}
use Rattle.checkpoint_journal.specs.Identity.{identity_of}
use Rattle.run_ready.specs.Identities.{lengths_of}
use Rattle.run_ready.specs.Due.{IsDue}
use Rattle.run_ready.specs.Recordings.{files_answer}
use Rattle.run_ready.specs.Sizes.{HasFiles, sizes_in}
use Rattle.run_ready.proofs.IdentityLemmas.{sizes_in-shelved}
use Rattle.run_ready.proofs.StationLemmas.{HasFiles-plan}
use Rattle.run_ready.proofs.StepLemmas.{IsCause-unless}
use Rattle.run_ready.proofs.surveys.survey_joined.Goals as goal

pub files_of-requires-clause-files : goal.files_of-requires-clause-files
files_of-requires-clause-files g c =
    let plan = c.args.joined.plan in
    let same : c.items.result.now ≡ plan.stations = c.items.ensures ∙ ap (λ (p : Plan). p.stations) c.plan-2.ensures.same in
    subst (λ (ss : List StationPlan). All HasFiles ss) (sym same) (HasFiles-plan plan c.plan-2.ensures.ranges c.args.joined.few)

pub survey_of-requires-clause-short_schedule : goal.survey_of-requires-clause-short_schedule
survey_of-requires-clause-short_schedule g c = omega (arith, ap length c.deref.ensures.value, c.args.joined.short_schedule)

pub survey_of-requires-clause-short_job : goal.survey_of-requires-clause-short_job
survey_of-requires-clause-short_job g c = omega (arith, ap length c.deref-2.ensures.value, c.args.joined.short_text)

pub returns-in_err-files-clause-cause : goal.returns-in_err-files-clause-cause
returns-in_err-files-clause-cause g c =
    let plan = c.args.joined.plan in
    let r = c.in_err-files.field-0.0 in
    let same : c.items.result.now ≡ plan.stations = c.items.ensures ∙ ap (λ (p : Plan). p.stations) c.plan-2.ensures.same in
    let p = err_from_is_err_and c.from_residual.result c.from_residual.ensures.1 in
    rw (p.1, p.2)
    (WhereTold-weaker (g.F.Shelf.told c.args.shelf.now) _ _
    (λ files due. IsCause-unless r (files_answer files plan.stations) plan
    (subst (λ (ss : List StationPlan). IsDue r (files_answer files ss)) same due))
    c.in_err-files.ensures.due)

pub returns-clause-identity : goal.returns-clause-identity
returns-clause-identity g c =
    let s = c.in_ok-survey_of.field-0 in
    let same : c.items.result.now ≡ c.args.joined.plan.stations = c.items.ensures ∙ ap (λ (p : Plan). p.stations) c.plan-2.ensures.same in
    let stations : c.items.result.now ≡ s.plan.stations = same ∙ ap (λ (p : Plan). p.stations) (sym c.in_ok-survey_of.ensures.plan) in
    WhereTold-weaker (g.F.Shelf.told c.args.shelf.now) _ _
    (λ files are. c.in_ok-survey_of.ensures.identity
    ∙ ap₂ (λ (v j : List ℕ). identity_of v j (sizes_in c.in_ok-files.files.items)) c.deref.ensures.value c.deref-2.ensures.value
    ∙ ap (λ (sizes : List ℕ). identity_of c.args.joined.schedule.items c.args.joined.text.items sizes)
    (sizes_in-shelved files c.items.result.now c.in_ok-files.files.items c.in_ok-files.ensures.sized are
    ∙ ap (λ (ss : List StationPlan). lengths_of files ss) stations))
    c.in_ok-files.ensures.shelved
