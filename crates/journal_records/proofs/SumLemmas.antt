-- The sums of an integration, from the epochs that were read.
use Rattle.std.specs.Prelude.{slice_get, replicate}
use Rattle.std.proofs.Common.{◌≡◌, ◌∙◌, sym, ap, ℕ, ◌+◌, ◌*◌, ◌<◌, ◌≤◌, min, List, Option, Some, arith}
use Rattle.corr_model.specs.declared.cell.Cell.{Cell}
use Rattle.corr_model.specs.Cell.{no_cell}
use Rattle.piece_plan.specs.declared.job.ScanSize.{ScanSize}
use Rattle.piece_plan.specs.Epochs.{JobSizes}
use Rattle.piece_plan.proofs.Quotients.{below_ceil}
use Rattle.job_plan.specs.declared.plan.ScanPlan.{ScanPlan}
use Rattle.job_plan.specs.declared.plan.Plan.{Plan}
use Rattle.job_plan.specs.Output.{integrations_of}
use Rattle.job_epochs.specs.Sizes.{size_of, sizes_of}
use Rattle.job_epochs.specs.Added.{width_of}
use Rattle.journal_image.specs.Image.{KeptEpoch}
use Rattle.journal_records.specs.Kept.{added_kept, kept_cells}
use Rattle.journal_records.specs.Places.{IsIntegration, place_from, place_of_integration}
use Rattle.journal_records.specs.Reading.{IsAdded}
use Rattle.journal_records.specs.Store.{Store, Tells, Reaches, Rests}
use Rattle.journal_records.proofs.PlaceLemmas.{place_from-first}
use Rattle.journal_records.proofs.ReadingLemmas.{tells-cut, added-all, added-due}
use Rattle.journal_records.proofs.StoreLemmas.{size-cut, kept-at, tells-same, tells-on}

-- what is added to for each integration of this length
abbrev pub Adds : {D : Type 0} → (D → Option (List ℕ)) → (D → ℕ) → (D → ℕ → List ℕ → Type 0) → JobSizes → ℕ → ℕ → List Cell → List Cell → Store D → Store D → Type 0
Adds seen moment may_leave job from to start sums old new =
    (number m : ℕ) (size : ScanSize) → IsIntegration job number size m from to → (id : List ℕ) (kept : List KeptEpoch)
    → Tells seen moment may_leave job id kept (place_from job number size m from) old
    → IsAdded job number size m to kept start sums new.journal

module _ {D : Type 0} (seen : D → Option (List ℕ)) (moment : D → ℕ) (may_leave : D → ℕ → List ℕ → Type 0) (plan : Plan) (job : JobSizes)
    (same : job ≡ sizes_of plan) (number m : ℕ) (scan : ScanPlan) (there : slice_get plan.scans number ≡ Some scan)
    (from to : ℕ) (begins : from ≡ m * plan.integration) (ends : to ≡ min (from + plan.integration) scan.samples)
    (some : 1 ≤ plan.integration) (inside : m < integrations_of plan scan) (start sums : List Cell) (old new : Store D) (rests : Rests seen moment may_leave job old new)
    (adds : Adds seen moment may_leave job from to start sums old new) where
  is : IsIntegration job number (size_of plan scan) m from to
  is =
      let long : job.integration ≡ plan.integration = ap (λ (j : JobSizes). j.integration) same in
      let times : m * job.integration ≡ m * plan.integration = ap (λ n. m * n) long in
      let begun : m * plan.integration < scan.samples = below_ceil scan.samples plan.integration m (omega (arith, some)) inside in
      let next : (m + 1) * job.integration ≡ m * plan.integration + plan.integration = omega (arith, times, long) in
      record {
        scan = size-cut plan job number scan same there;
        begins = omega (arith, begins, times);
        ends = omega (arith, begins, ends, next);
        some = omega (arith, begins, ends, begun, some);
      }

  all : (id : List ℕ) (kept : List KeptEpoch) → Tells seen moment may_leave job id kept (place_of_integration job number (size_of plan scan) m) old
      → IsAdded job number (size_of plan scan) m to kept start sums new.journal
  all id kept t =
      adds number m (size_of plan scan) is id kept
      (tells-same seen moment may_leave job id kept _ _ old (place_from-first job number (size_of plan scan) m from to is) t)

  pub integration-summed : start ≡ replicate (width_of plan scan) no_cell
      → (id : List ℕ) (kept : List KeptEpoch) → Tells seen moment may_leave job id kept (place_of_integration job number (size_of plan scan) m) old
      → sums ≡ kept_cells plan kept number m
  integration-summed none id kept t =
      let added = all id kept t in
      let later : Tells seen moment may_leave job id kept (place_from job number (size_of plan scan) m to) new =
      tells-on seen moment may_leave job id kept _ _ old new t rests added.up_to in
      added-all job number (size_of plan scan) m from to is kept start sums new.journal
      (tells-cut seen moment may_leave job id kept (place_from job number (size_of plan scan) m to) new later) added
      ∙ ap (λ (s : List Cell). added_kept number m s kept) none
      ∙ sym (kept-at plan kept number m scan there)

  pub integration-reached : Reaches seen moment may_leave job (place_of_integration job number (size_of plan scan) m)
      (place_of_integration job number (size_of plan scan) (m + 1)) old new
  integration-reached = λ id kept t. added-due job number (size_of plan scan) m from to is kept start sums new.journal (all id kept t)
