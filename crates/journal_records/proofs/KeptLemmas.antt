-- The cells that kept epochs add up to are those of the plan.
use Rattle.std.specs.Prelude.{replicate, slice_get, option_map, if◌then◌else◌}
use Rattle.std.specs.List.{range_with_len, enumerate_from}
use Rattle.std.specs.Option.{option_map_or}
use Rattle.std.proofs.Common.{◌≡◌, ◌∙◌, refl, sym, ap, subst, ℕ, zero, suc, ◌+◌, ◌*◌, ◌<◌, List, [], ◌∷◌, map, Option, Some, All, arith}
use Rattle.std.proofs.Math.Nat.{zero-add}
use Rattle.std.proofs.lemmas.Option.{slice_get-map}
use Rattle.corr_model.specs.declared.cell.Cell.{Cell}
use Rattle.corr_model.specs.Cell.{Samples, no_cell}
use Rattle.corr_model.specs.Files.{Files}
use Rattle.corr_model.specs.Records.{HeadScan, vis_text}
use Rattle.piece_plan.specs.declared.epoch.EpochPlan.{EpochPlan}
use Rattle.piece_plan.specs.Epochs.{JobSizes, IsEpoch, integration_at}
use Rattle.piece_plan.specs.Order.{Place, place_after, AreInOrder, CoverJob}
use Rattle.piece_plan.proofs.Quotients.{below_ceil}
use Rattle.job_plan.specs.declared.plan.ScanPlan.{ScanPlan}
use Rattle.job_plan.specs.declared.plan.Plan.{Plan}
use Rattle.job_plan.specs.Ranges.{IsPlan, IsScanPlan}
use Rattle.job_plan.specs.Values.{rotated}
use Rattle.job_plan.specs.Output.{head_of, head_scan, integration_cells, integrations_of, output}
use Rattle.job_epochs.specs.Sizes.{size_of, sizes_of}
use Rattle.job_epochs.specs.Sums.{range_cells, epoch_sums}
use Rattle.job_epochs.specs.Added.{add_cells, is_of, width_of}
use Rattle.job_epochs.proofs.EachLemmas.{Each, flat_map-same, Each-range, Each-enumerate}
use Rattle.job_epochs.proofs.SmallValues.{at-place, rotated-small}
use Rattle.job_epochs.proofs.RangeCells.{range_cells-none}
use Rattle.job_epochs.proofs.FoldLemmas.{added_by}
use Rattle.job_epochs.proofs.AddedLemmas.{epoch_sums-at}
use Rattle.checkpoint_journal.specs.Cells.{body_text, body_cells}
use Rattle.journal_image.specs.Image.{KeptEpoch}
use Rattle.vis_writer.specs.Cells.{all_cells, scan_cells}
use Rattle.vis_writer.specs.Cells as counts
use Rattle.vis_writer.specs.PlanCells.{cells_from}
use Rattle.vis_writer.proofs.PlanText.{output-numbered}
use Rattle.journal_records.specs.Kept.{added_kept, kept_cells, kept_text}
use Rattle.checkpoint_journal.proofs.BodyCells.{body_cells-body_text}
use Rattle.job_epochs.proofs.EpochCells.{map-back, epoch_sums-IsCell}
use Rattle.journal_records.proofs.AddedEpochs.{cover-added}

-- the epochs of what is kept
abbrev epochs_of : List KeptEpoch → List EpochPlan
epochs_of kept = map (λ (k : KeptEpoch). k.epoch) kept

-- each body is the text of its epoch's sums
abbrev AreSums : Plan → Files → List KeptEpoch → Type 0
AreSums plan files kept = All (λ (k : KeptEpoch). k.body ≡ body_text (epoch_sums plan files k.epoch)) kept

-- each kept epoch is one of the job
kept-IsEpoch : (job : JobSizes) (due end : Option Place) (kept : List KeptEpoch) → AreInOrder job due (epochs_of kept) end
    → Each (λ (k : KeptEpoch). IsEpoch job k.epoch) kept
kept-IsEpoch job due end [] are i k there = absurd (cc)
kept-IsEpoch job due end (d ∷ kept) are zero k there =
    let same : d ≡ k = cc in
    subst (λ (x : KeptEpoch). IsEpoch job x.epoch) same are.1
kept-IsEpoch job due end (d ∷ kept) are (suc i) k there = kept-IsEpoch job (place_after job d.epoch) end kept are.2 i k there

-- bodies that stand for what their epochs add
added_kept-is : (f : EpochPlan → List Cell) (number m : ℕ) (sum : List Cell) (kept : List KeptEpoch)
    → Each (λ (k : KeptEpoch). body_cells k.body ≡ f k.epoch) kept
    → added_kept number m sum kept ≡ added_by f number m sum (epochs_of kept)
added_kept-is f number m sum [] each = refl
added_kept-is f number m sum (k ∷ kept) each =
    ap (λ (row : List Cell). added_kept number m (if is_of number m k.epoch then add_cells sum row else sum) kept) (each 0 k refl)
    ∙ added_kept-is f number m (if is_of number m k.epoch then add_cells sum (f k.epoch) else sum) kept
    (λ i d there. each (suc i) d there)

-- an integration's cells are those of its samples
integration_cells-is : (plan : Plan) (z : Samples) (scan : ScanPlan) (m : ℕ)
    → range_cells plan z scan
    (integration_at (sizes_of plan) (size_of plan scan) m).from (integration_at (sizes_of plan) (size_of plan scan) m).to
    ≡ integration_cells plan z scan m
integration_cells-is plan z scan m = rw (zero-add (m * plan.integration), zero-add ((m + 1) * plan.integration)) refl

module _ (plan : Plan) (files : Files) (kept : List KeptEpoch) (is : IsPlan plan) (cover : CoverJob (sizes_of plan) (epochs_of kept))
    (sums : AreSums plan files kept) where
  body-is : (i : ℕ) (k : KeptEpoch) → slice_get kept i ≡ Some k → body_cells k.body ≡ epoch_sums plan files k.epoch
  body-is i k there =
      ap body_cells (at-place (λ (x : KeptEpoch). x.body ≡ body_text (epoch_sums plan files x.epoch)) kept i k sums there)
      ∙ body_cells-body_text (epoch_sums plan files k.epoch)
      (epoch_sums-IsCell plan files k.epoch is (kept-IsEpoch (sizes_of plan) _ _ kept cover i k there))

  -- what the kept epochs of an integration add up to
  integration-kept : (number m : ℕ) (scan : ScanPlan) → slice_get plan.scans number ≡ Some scan → m < integrations_of plan scan
      → added_kept number m (replicate (width_of plan scan) no_cell) kept ≡ integration_cells plan (rotated plan files scan) scan m
  integration-kept number m scan there inside =
      let scan_is : IsScanPlan plan scan = at-place (IsScanPlan plan) plan.scans number scan is.scans there in
      let at : slice_get (sizes_of plan).scans number ≡ Some (size_of plan scan) =
      slice_get-map (size_of plan) plan.scans number ∙ ap (option_map (size_of plan)) there in
      let begun : m * plan.integration < scan.samples = below_ceil scan.samples plan.integration m is.some_integration inside in
      added_kept-is (epoch_sums plan files) number m (replicate (width_of plan scan) no_cell) kept body-is
      ∙ cover-added (epoch_sums plan files) number m (sizes_of plan) plan (rotated plan files scan) scan (size_of plan scan)
      (rotated-small plan files scan is) at (omega (arith, scan_is.samples))
      (λ e here. epoch_sums-at plan files scan e (ap (slice_get plan.scans) here ∙ there))
      (epochs_of kept) (replicate (width_of plan scan) no_cell) cover (omega arith) (omega (arith, begun, is.some_integration))
      (sym (range_cells-none plan (rotated plan files scan) scan (integration_at (sizes_of plan) (size_of plan scan) m).from))
      ∙ integration_cells-is plan (rotated plan files scan) scan m

  -- the cells of an integration
  kept_cells-are : (number m : ℕ) (scan : ScanPlan) → slice_get plan.scans number ≡ Some scan → m < integrations_of plan scan
      → kept_cells plan kept number m ≡ cells_from plan files number m
  kept_cells-are number m scan there inside =
      ap
      (λ (o : Option ScanPlan).
      option_map_or (λ (s : ScanPlan). added_kept number m (replicate (width_of plan s) no_cell) kept) o []) there
      ∙ integration-kept number m scan there inside
      ∙ sym (ap
      (λ (o : Option ScanPlan). option_map_or (λ (s : ScanPlan). integration_cells plan (rotated plan files s) s m) o []) there)

  -- the cells of a scan
  scan_cells-are : (number : ℕ) (s : HeadScan) → slice_get (head_of plan).scans number ≡ Some s
      → scan_cells (head_of plan) (kept_cells plan kept) (number, s) ≡ scan_cells (head_of plan) (cells_from plan files) (number, s)
  scan_cells-are number s there =
      let found : (scan : ScanPlan) × (slice_get plan.scans number ≡ Some scan) × (head_scan scan ≡ s) =
      map-back head_scan (slice_get plan.scans number) s (sym (slice_get-map head_scan plan.scans number) ∙ there) in
      let count : ℕ = counts.integrations_of (head_of plan) s in
      let same : integrations_of plan found.0 ≡ counts.integrations_of (head_of plan) s =
      ap (λ (h : HeadScan). counts.integrations_of (head_of plan) h) found.2 in
      flat_map-same (kept_cells plan kept number) (cells_from plan files number) (range_with_len 0 count)
      (Each-range (λ m. kept_cells plan kept number m ≡ cells_from plan files number m) 0 count
      (λ m low high. kept_cells-are number m found.0 found.1 (omega (arith, high, same))))

  all_cells-are : all_cells (head_of plan) (kept_cells plan kept) ≡ all_cells (head_of plan) (cells_from plan files)
  unfolding all_cells
  all_cells-are =
      let Same : ℕ × HeadScan → Type 0 =
      λ s. scan_cells (head_of plan) (kept_cells plan kept) s ≡ scan_cells (head_of plan) (cells_from plan files) s in
      flat_map-same (scan_cells (head_of plan) (kept_cells plan kept)) (scan_cells (head_of plan) (cells_from plan files))
      (enumerate_from 0 (head_of plan).scans)
      (Each-enumerate Same 0 (head_of plan).scans
      (λ i s there.
      let here : i ≡ 0 + i = omega arith in
      subst (λ (n : ℕ). Same (n, s)) here (scan_cells-are i s there)))

  -- the record file
  pub kept_text-output : kept_text plan kept ≡ output plan files
  unfolding kept_text
  kept_text-output = ap (vis_text (head_of plan)) all_cells-are ∙ output-numbered plan files
