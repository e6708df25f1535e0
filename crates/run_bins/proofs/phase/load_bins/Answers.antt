use Rattle.std.proofs.Common.{Ok, ℕ, List, subst}
use Rattle.std.proofs.lemmas.Result.{err_from_is_err_and}
use Rattle.pulsar_bins.specs.Answer.{bins_in}
use Rattle.run_notes.specs.Answers.{bins_answer}
use Rattle.run_notes.specs.Refusals.{IsCause}
use Rattle.run_ready.specs.Steps.{Is, answered}
use Rattle.run_ready.proofs.StepLemmas.{IsOfFiles-texts}
use Rattle.run_bins.proofs.OutcomeLemmas.{text-cause, fault-cause, phase-cause, bins-done}
use Rattle.run_bins.proofs.phase.load_bins.Goals as goal

pub returns-in_err-text-clause-cause : goal.returns-in_err-text-clause-cause
returns-in_err-text-clause-cause g c =
    let p = err_from_is_err_and c.from_residual.result c.from_residual.ensures.1 in
    rw (p.1, p.2)
    (text-cause c.args.phase.now c.args.plan.now c.in_err-text.field-0.0 c.in_err-text.ensures.stage (g.F.Shelf.told c.args.shelf.now) c.in_err-text.ensures.cause)

pub returns-in_err-bins-clause-cause : goal.returns-in_err-bins-clause-cause
returns-in_err-bins-clause-cause g c =
    let p = err_from_is_err_and c.from_residual-in_err-bins.result c.from_residual-in_err-bins.ensures.1 in
    let r = c.in_err-bins.field-0.0 in
    rw (p.1, p.2)
    (fault-cause c.args.phase.now c.args.plan.now c.in_err-bins.field-0.0 (IsOfFiles-texts c.in_err-bins.field-0.0 c.in_err-bins.ensures.stage)
    (g.F.Shelf.told c.args.shelf.now) c.in_ok-text.text.items c.in_ok-text.ensures.text
    (subst (λ (t : List ℕ). IsCause r (Is (answered bins_answer (bins_in t)))) c.deref.ensures.value c.in_err-bins.ensures.cause))

pub returns-in_err-check_phase-clause-cause : goal.returns-in_err-check_phase-clause-cause
returns-in_err-check_phase-clause-cause g c =
    let p = err_from_is_err_and c.from_residual-in_err-check_phase.result c.from_residual-in_err-check_phase.ensures.1 in
    rw (p.1, p.2)
    (phase-cause c.args.phase.now c.args.plan.now c.in_err-check_phase.field-0.0 (IsOfFiles-texts c.in_err-check_phase.field-0.0 c.in_err-check_phase.ensures.stage)
    (g.F.Shelf.told c.args.shelf.now) c.in_ok-text.text.items c.in_ok-bins.bins c.in_ok-text.ensures.text
    (subst (λ (t : List ℕ). Is (answered bins_answer (bins_in t)) (Ok c.in_ok-bins.bins)) c.deref.ensures.value c.in_ok-bins.ensures.bins)
    c.in_err-check_phase.ensures.due)

pub returns-clause-bins : goal.returns-clause-bins
returns-clause-bins g c =
    bins-done c.args.phase.now c.args.plan.now (g.F.Shelf.told c.args.shelf.now) c.in_ok-text.text.items c.in_ok-bins.bins c.in_ok-text.ensures.text
    (subst (λ (t : List ℕ). Is (answered bins_answer (bins_in t)) (Ok c.in_ok-bins.bins)) c.deref.ensures.value c.in_ok-bins.ensures.bins)
    c.in_ok-check_phase.ensures.covered
