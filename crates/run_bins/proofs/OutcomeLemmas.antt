-- What the files of a job and a pulse come to, step by step, and what the command tells of it.
use Rattle.std.specs.Prelude.{option_map, IfErr, IsErrAnd}
use Rattle.std.proofs.Common.{◌≡◌, ℕ, List, Option, Some, None, Result, Ok, sym, ap}
use Rattle.std.proofs.lemmas.Result.{err_from_is_err_and}
use Rattle.corr_model.specs.Files.{Files}
use Rattle.dev_traits.specs.Told.{WhereTold}
use Rattle.job_plan.specs.declared.plan.Plan.{Plan}
use Rattle.pulsar_bins.specs.Bins.{BinsFields}
use Rattle.pulsar_bins.specs.Answer.{bins_in}
use Rattle.pulsar_bins.specs.Scans.{no_phase}
use Rattle.vis_writer.specs.Writes.{Appended}
use Rattle.run_notes.specs.declared.measure.Measure.TheVariants.{Phase}
use Rattle.run_notes.specs.declared.refusal.Refusal.{Refusal}
use Rattle.run_notes.specs.Answers.{Answer, bins_answer, no_phase_answer}
use Rattle.run_notes.specs.Refusals.{Outcomes, IsCause}
use Rattle.run_notes.specs.Commands.{Tells, IsOfOutput}
use Rattle.run_notes.proofs.CommandLemmas.{tells-appended}
use Rattle.run_ready.specs.Steps.{Is, Then, answered, unless}
use Rattle.run_ready.specs.Due.{IsDue}
use Rattle.run_ready.specs.Stage.{IsOfFiles}
use Rattle.run_ready.specs.Outcome.{JoinOf, text_under}
use Rattle.run_ready.specs.Recordings.{recordings_answer}
use Rattle.run_ready.proofs.StepLemmas.{IsCause-first, IsCause-next, IsCause-unless}
use Rattle.run_bins.specs.Texts.{BinPlan, bin_output}
use Rattle.run_bins.specs.Outcome.{scan_name, uncovered, too_many_cells, BinsUnder, BinsOf}

-- what holds of a refusal holds where it is handed on
pub handed-on : {T : Type 0} (P : Refusal → Type 0) (r : Result T Refusal) {e : Refusal} → IsErrAnd r (λ y. y ≡ e) → P e → IfErr r P
handed-on P r failed fact = let p = err_from_is_err_and r failed in rw (p.1, p.2) fact

-- ---- the text of phases

module _ (phase : List ℕ) (plan : Plan) (r : Refusal) (stage : IsOfFiles r) where
  -- what is behind the text, and behind its bins
  abbrev bins_behind : List ℕ → Outcomes BinsFields
  bins_behind text = Then (Is (answered bins_answer (bins_in text))) (λ bins. Is (unless (uncovered plan bins) bins))

  pub text-cause : (told : Option Files) → WhereTold told (λ files. IsCause r (Is (text_under files phase Phase 65536)))
      → WhereTold told (λ files. IsCause r (BinsUnder files phase plan))
  text-cause None cause = tt
  text-cause (Some files) cause = IsCause-first r (Is (text_under files phase Phase 65536)) bins_behind stage cause

  pub fault-cause : (told : Option Files) (text : List ℕ) → WhereTold told (λ files. Is (text_under files phase Phase 65536) (Ok text))
      → IsCause r (Is (answered bins_answer (bins_in text)))
      → WhereTold told (λ files. IsCause r (BinsUnder files phase plan))
  fault-cause None text is cause = tt
  fault-cause (Some files) text is cause =
      IsCause-next r (Is (text_under files phase Phase 65536)) bins_behind text stage is
      (IsCause-first r (Is (answered bins_answer (bins_in text))) (λ bins. Is (unless (uncovered plan bins) bins)) stage cause)

  pub phase-cause : (told : Option Files) (text : List ℕ) (bins : BinsFields) → WhereTold told (λ files. Is (text_under files phase Phase 65536) (Ok text))
      → Is (answered bins_answer (bins_in text)) (Ok bins)
      → IsDue r (uncovered plan bins)
      → WhereTold told (λ files. IsCause r (BinsUnder files phase plan))
  phase-cause None text bins is there due = tt
  phase-cause (Some files) text bins is there due =
      IsCause-next r (Is (text_under files phase Phase 65536)) bins_behind text stage is
      (IsCause-next r (Is (answered bins_answer (bins_in text))) (λ bins. Is (unless (uncovered plan bins) bins)) bins stage there
      (IsCause-unless r (uncovered plan bins) bins due))

pub bins-done : (phase : List ℕ) (plan : Plan) (told : Option Files) (text : List ℕ) (bins : BinsFields)
    → WhereTold told (λ files. Is (text_under files phase Phase 65536) (Ok text))
    → Is (answered bins_answer (bins_in text)) (Ok bins)
    → no_phase bins plan ≡ None
    → WhereTold told (λ files. BinsUnder files phase plan (Ok bins))
bins-done phase plan None text bins is there covered = tt
bins-done phase plan (Some files) text bins is there covered = (text, is, (bins, there, within))
  where
    within : Is (unless (uncovered plan bins) bins) (Ok bins)
    within = sym (ap (λ (o : Option ℕ). unless (option_map (λ number. no_phase_answer (scan_name plan number)) o) bins) covered)

-- ---- the job, the text of phases, the limit and the recordings

-- the outcomes behind a plan, and behind its bins
abbrev recordings_behind : Files → Plan → BinsFields → Outcomes BinPlan
recordings_behind files plan within = Is (unless (recordings_answer files plan.stations) (record { plan = plan; bins = within }))

abbrev limit_behind : Files → Plan → BinsFields → Outcomes BinPlan
limit_behind files plan bins = Then (Is (unless (too_many_cells plan bins) bins)) (recordings_behind files plan)

abbrev phase_behind : Files → List ℕ → Plan → Outcomes BinPlan
phase_behind files phase plan = Then (BinsUnder files phase plan) (limit_behind files plan)

module _ (job : List ℕ) (vex : Option (List ℕ)) (phase : List ℕ) (r : Refusal) (stage : IsOfFiles r) where
  pub job-refused : (told : Option Files) → WhereTold told (λ files. IsCause r (JoinOf files job vex None))
      → WhereTold told (λ files. IsCause r (BinsOf files job vex phase))
  job-refused None cause = tt
  job-refused (Some files) cause = IsCause-first r (JoinOf files job vex None) (phase_behind files phase) stage cause

  pub phase-refused : (told : Option Files) (plan : Plan) → WhereTold told (λ files. JoinOf files job vex None (Ok plan))
      → WhereTold told (λ files. IsCause r (BinsUnder files phase plan))
      → WhereTold told (λ files. IsCause r (BinsOf files job vex phase))
  phase-refused None plan is cause = tt
  phase-refused (Some files) plan is cause =
      IsCause-next r (JoinOf files job vex None) (phase_behind files phase) plan stage is
      (IsCause-first r (BinsUnder files phase plan) (limit_behind files plan) stage cause)

  pub limit-refused : (told : Option Files) (plan : Plan) (bins : BinsFields) → WhereTold told (λ files. JoinOf files job vex None (Ok plan))
      → WhereTold told (λ files. BinsUnder files phase plan (Ok bins))
      → IsDue r (too_many_cells plan bins)
      → WhereTold told (λ files. IsCause r (BinsOf files job vex phase))
  limit-refused None plan bins is there due = tt
  limit-refused (Some files) plan bins is there due =
      IsCause-next r (JoinOf files job vex None) (phase_behind files phase) plan stage is
      (IsCause-next r (BinsUnder files phase plan) (limit_behind files plan) bins stage there
      (IsCause-first r (Is (unless (too_many_cells plan bins) bins)) (recordings_behind files plan) stage
      (IsCause-unless r (too_many_cells plan bins) bins due)))

  pub recordings-refused : (told : Option Files) (plan : Plan) (bins : BinsFields) → WhereTold told (λ files. JoinOf files job vex None (Ok plan))
      → WhereTold told (λ files. BinsUnder files phase plan (Ok bins))
      → too_many_cells plan bins ≡ None
      → WhereTold told (λ files. IsDue r (recordings_answer files plan.stations))
      → WhereTold told (λ files. IsCause r (BinsOf files job vex phase))
  recordings-refused None plan bins is there few due = tt
  recordings-refused (Some files) plan bins is there few due =
      IsCause-next r (JoinOf files job vex None) (phase_behind files phase) plan stage is
      (IsCause-next r (BinsUnder files phase plan) (limit_behind files plan) bins stage there
      (IsCause-next r (Is (unless (too_many_cells plan bins) bins)) (recordings_behind files plan) bins stage
      (sym (ap (λ (o : Option Answer). unless o bins) few))
      (IsCause-unless r (recordings_answer files plan.stations) (record { plan = plan; bins = bins }) due)))

pub job-done : (job : List ℕ) (vex : Option (List ℕ)) (phase : List ℕ) (told : Option Files) (plan : Plan) (bins : BinsFields)
    → WhereTold told (λ files. JoinOf files job vex None (Ok plan))
    → WhereTold told (λ files. BinsUnder files phase plan (Ok bins))
    → too_many_cells plan bins ≡ None
    → WhereTold told (λ files. recordings_answer files plan.stations ≡ None)
    → WhereTold told (λ files. BinsOf files job vex phase (Ok (record { plan = plan; bins = bins })))
job-done job vex phase None plan bins is there few fit = tt
job-done job vex phase (Some files) plan bins is there few fit = (
  plan,
  is,
  (
    bins,
    there,
    (
      bins,
      sym (ap (λ (o : Option Answer). unless o bins) few),
      sym (ap (λ (o : Option Answer). unless o both) fit),
    ),
  ),
)
  where
    both : BinPlan
    both = record { plan = plan; bins = bins }

-- ---- what the command tells

pub tells-written : (told : Option Files) (outcomes : Files → Outcomes BinPlan) (x : BinPlan) (old new : Option (List ℕ)) (result : Result (Unit {0}) Refusal)
    → WhereTold told (λ files. outcomes files (Ok x))
    → WhereTold told (λ files. Appended old (bin_output x files) new result)
    → IfErr result IsOfOutput
    → WhereTold told (λ files. Tells (outcomes files) (λ x. bin_output x files) old new result)
tells-written None outcomes x old new result is written stage = tt
tells-written (Some files) outcomes x old new result is written stage =
    tells-appended (outcomes files) (λ x. bin_output x files) x old new result is written.all written.part stage
