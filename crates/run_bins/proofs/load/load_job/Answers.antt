use Rattle.std.specs.Prelude.{option_copied}
use Rattle.std.specs.List.{All}
use Rattle.std.proofs.Common.{◌≡◌, ◌∙◌, ◌≤◌, None, Ok, sym, subst}
use Rattle.dev_traits.specs.Told.{WhereTold}
use Rattle.job_plan.specs.declared.plan.Plan.{Plan}
use Rattle.pulsar_bins.specs.Scans.{no_phase}
use Rattle.bin_sums.specs.Binned.{bin_width}
use Rattle.run_ready.proofs.ToldLemmas.{WhereTold-moved}
use Rattle.run_ready.proofs.StepLemmas.{IsOfFiles-texts}
use Rattle.run_bins.specs.Outcome.{BinsOf}
use Rattle.run_bins.proofs.OutcomeLemmas.{handed-on, job-refused, phase-refused, limit-refused, recordings-refused, job-done}
use Rattle.run_bins.proofs.load.load_job.Goals as goal

pub returns-in_err-joined-clause-cause : goal.returns-in_err-joined-clause-cause
returns-in_err-joined-clause-cause g c =
    handed-on _ _ c.from_residual.ensures.1
    (job-refused c.args.job.now (option_copied c.args.vex) c.args.phase.now c.in_err-joined.field-0.0 c.in_err-joined.ensures.stage
    (g.F.Shelf.told c.args.shelf.now) c.in_err-joined.ensures.cause)

pub returns-in_err-bins-clause-cause : goal.returns-in_err-bins-clause-cause
returns-in_err-bins-clause-cause g c =
    let told = g.F.Shelf.told in
    handed-on _ _ c.from_residual-in_err-bins.ensures.1
    (phase-refused c.args.job.now (option_copied c.args.vex) c.args.phase.now c.in_err-bins.field-0.0 c.in_err-bins.ensures.stage
    (told c.args.shelf.now) c.in_ok-joined.joined.plan c.in_ok-joined.ensures.plan
    (WhereTold-moved (told c.args.shelf.now) (told c.join.new.shelf) _ c.join.ensures.same c.in_err-bins.ensures.cause))

pub returns-in_err-check_cells-clause-cause : goal.returns-in_err-check_cells-clause-cause
returns-in_err-check_cells-clause-cause g c =
    let told = g.F.Shelf.told in
    handed-on _ _ c.from_residual-in_err-check_cells.ensures.1
    (limit-refused c.args.job.now (option_copied c.args.vex) c.args.phase.now c.in_err-check_cells.field-0.0
    (IsOfFiles-texts c.in_err-check_cells.field-0.0 c.in_err-check_cells.ensures.stage)
    (told c.args.shelf.now) c.in_ok-joined.joined.plan c.in_ok-bins.bins c.in_ok-joined.ensures.plan
    (WhereTold-moved (told c.args.shelf.now) (told c.join.new.shelf) _ c.join.ensures.same c.in_ok-bins.ensures.bins)
    c.in_err-check_cells.ensures.due)

pub returns-in_err-ready-clause-cause : goal.returns-in_err-ready-clause-cause
returns-in_err-ready-clause-cause g c =
    let told = g.F.Shelf.told in
    handed-on _ _ c.from_residual-in_err-ready.ensures.1
    (recordings-refused c.args.job.now (option_copied c.args.vex) c.args.phase.now c.in_err-ready.field-0.0 c.in_err-ready.ensures.stage
    (told c.args.shelf.now) c.in_ok-joined.joined.plan c.in_ok-bins.bins c.in_ok-joined.ensures.plan
    (WhereTold-moved (told c.args.shelf.now) (told c.join.new.shelf) _ c.join.ensures.same c.in_ok-bins.ensures.bins)
    c.in_ok-check_cells.ensures.none
    (WhereTold-moved (told c.args.shelf.now) (told c.load_bins.new.shelf) _ (c.load_bins.ensures.same ∙ c.join.ensures.same) c.in_err-ready.ensures.due))

pub invariant_of-result : goal.invariant_of-result
invariant_of-result g c = record {
  covered = subst (λ (p : Plan). no_phase c.in_ok-bins.bins p ≡ None) (sym c.in_ok-ready.ensures.plan) c.in_ok-bins.ensures.covered;
  few =
      subst (λ (p : Plan). All (λ scan. bin_width p c.in_ok-bins.bins scan ≤ 4194304) p.scans) (sym c.in_ok-ready.ensures.plan)
      c.in_ok-check_cells.ensures.few;
}

pub returns-clause-plan : goal.returns-clause-plan
returns-clause-plan g c =
    let told = g.F.Shelf.told in
    subst (λ (p : Plan). WhereTold (told c.args.shelf.now) (λ files. BinsOf files c.args.job.now (option_copied c.args.vex) c.args.phase.now (Ok (record { plan = p; bins = c.in_ok-bins.bins }))))
    (sym c.in_ok-ready.ensures.plan)
    (job-done c.args.job.now (option_copied c.args.vex) c.args.phase.now (told c.args.shelf.now) c.in_ok-joined.joined.plan c.in_ok-bins.bins
    c.in_ok-joined.ensures.plan
    (WhereTold-moved (told c.args.shelf.now) (told c.join.new.shelf) _ c.join.ensures.same c.in_ok-bins.ensures.bins)
    c.in_ok-check_cells.ensures.none
    (WhereTold-moved (told c.args.shelf.now) (told c.load_bins.new.shelf) _ (c.load_bins.ensures.same ∙ c.join.ensures.same) c.in_ok-ready.ensures.fit))
