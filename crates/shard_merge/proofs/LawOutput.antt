-- Shards whose epochs have each the text of its sums agree, and where they cover a job they make its record file.
use Rattle.std.specs.Prelude.{filter, slice_get, option_map}
use Rattle.std.specs.Int.{div_ceil}
use Rattle.std.specs.List.{range_with_len, enumerate_from}
use Rattle.std.specs.Option.{option_map_or}
use Rattle.std.proofs.Common.{◌≡◌, ◌∙◌, refl, sym, ap, subst, ℕ, ◌+◌, ◌-◌, ◌*◌, ◌<◌, ◌≤◌, true, false, List, [], ◌∷◌, map, Option, Some, None, All, arith}
use Rattle.std.proofs.lemmas.Option.{slice_get-map}
use Rattle.corr_model.specs.declared.cell.Cell.{Cell}
use Rattle.corr_model.specs.Files.{Files}
use Rattle.corr_model.specs.Records.{HeadScan, vis_text}
use Rattle.piece_plan.specs.declared.job.ScanSize.{ScanSize}
use Rattle.piece_plan.specs.Epochs.{JobSizes, integration_at, integration_count}
use Rattle.job_plan.specs.declared.plan.ScanPlan.{ScanPlan}
use Rattle.job_plan.specs.declared.plan.Plan.{Plan}
use Rattle.job_plan.specs.Ranges.{IsPlan}
use Rattle.job_plan.specs.Values.{rotated}
use Rattle.job_plan.specs.Output.{head_of, head_scan, integration_cells, integrations_of, output}
use Rattle.job_epochs.specs.Sizes.{size_of, sizes_of}
use Rattle.job_epochs.specs.Added.{is_of}
use Rattle.job_epochs.proofs.EachLemmas.{Each, flat_map-same, Each-range, Each-enumerate}
use Rattle.journal_image.specs.Image.{KeptEpoch}
use Rattle.vis_writer.specs.Cells.{all_cells, scan_cells}
use Rattle.vis_writer.specs.Cells as counts
use Rattle.vis_writer.specs.PlanCells.{cells_from}
use Rattle.vis_writer.proofs.PlanText.{output-numbered}
use Rattle.shard_merge.specs.declared.fault.CellsDiffer.{CellsDiffer}
use Rattle.shard_merge.specs.declared.fault.MergeFault.TheVariants.{Differs}
use Rattle.shard_merge.specs.Covers.{follow, covers, epochs_of_kept, shard_cells, covering}
use Rattle.shard_merge.specs.Verdict.{integrations_in, verdict_at, verdict}
use Rattle.shard_merge.specs.Merged.{first_image, merged_cells, merged}
use Rattle.shard_merge.specs.Honest.{EpochsFit, AreHonest}
use Rattle.shard_merge.proofs.LawLists.{Each-all, Each-mapped, Each-filter}
use Rattle.job_epochs.proofs.EpochCells.{map-back}
use Rattle.shard_merge.proofs.LawCells.{AreTrue, shard_cells-are}
use Rattle.shard_merge.proofs.LawVerdicts.{verdict_on-one, verdict_on-some, verdict_from-agrees, verdict-none}

-- no epochs cover an integration of a scan that there is not
covers-none : (job : JobSizes) (number m : ℕ) (kept : List KeptEpoch) → slice_get job.scans number ≡ None
    → covers job number m (epochs_of_kept kept) ≡ true → ⊥
covers-none job number m kept none covered =
    let never : false ≡ true =
    sym (ap
    (λ (o : Option ScanSize).
    option_map_or
    (λ (size : ScanSize).
    follow (integration_at job size m).from (integration_at job size m).to (filter (is_of number m) (epochs_of_kept kept)))
    o false)
    none)
    ∙ covered in
    cc

module _ (plan : Plan) (files : Files) (keeps : List (List KeptEpoch)) (is : IsPlan plan)
    (fit : All (EpochsFit (sizes_of plan)) keeps) (honest : All (AreHonest plan files) keeps) where
  -- each image that covers an integration is true and covers it
  covering-are : (number m : ℕ)
      → Each (λ (kept : List KeptEpoch). AreTrue plan files kept × (covers (sizes_of plan) number m (epochs_of_kept kept) ≡ true))
      (covering (sizes_of plan) number m keeps)
  covering-are number m =
      Each-filter (AreTrue plan files) (λ (kept : List KeptEpoch). covers (sizes_of plan) number m (epochs_of_kept kept)) keeps
      (λ i kept there. (Each-all (EpochsFit (sizes_of plan)) keeps fit i kept there, Each-all (AreHonest plan files) keeps honest i kept there))

  agree-at : (i : ℕ) (p : ℕ × ℕ) (d : CellsDiffer) → verdict_at (sizes_of plan) keeps i p ≡ Some (Differs d) → ⊥
  agree-at i p d says = by (slice_get plan.scans p.0) refl
    where
      rows : (cells : List Cell)
          → ((kept : List KeptEpoch) → AreTrue plan files kept → covers (sizes_of plan) p.0 p.1 (epochs_of_kept kept) ≡ true
          → shard_cells (sizes_of plan) p.0 p.1 kept ≡ cells)
          → ⊥
      rows cells each =
          verdict_on-one (sizes_of plan) i cells (map (shard_cells (sizes_of plan) p.0 p.1) (covering (sizes_of plan) p.0 p.1 keeps)) d
          (Each-mapped (λ (row : List Cell). row ≡ cells) (shard_cells (sizes_of plan) p.0 p.1) (covering (sizes_of plan) p.0 p.1 keeps)
          (λ k kept there.
          let known = covering-are p.0 p.1 k kept there in
          each kept known.0 known.1))
          says

      by : (o : Option ScanPlan) → slice_get plan.scans p.0 ≡ o → ⊥
      by None there =
          let none : slice_get (sizes_of plan).scans p.0 ≡ None =
          slice_get-map (size_of plan) plan.scans p.0 ∙ ap (option_map (size_of plan)) there in
          rows [] (λ kept sums covered. absurd (covers-none (sizes_of plan) p.0 p.1 kept none covered))
      by (Some scan) there =
          rows (integration_cells plan (rotated plan files scan) scan p.1)
          (λ kept sums covered. shard_cells-are plan files p.0 p.1 scan is there kept sums covered)

  -- no two differ
  pub shards-agree : (d : CellsDiffer) → verdict (sizes_of plan) keeps ≡ Some (Differs d) → ⊥
  unfolding verdict
  shards-agree d says =
      verdict_from-agrees (sizes_of plan) keeps d 0 (integrations_in (sizes_of plan)) (λ i p here. agree-at i p d here) says

  -- the first image that covers an integration has its cells
  first-covers : (number m : ℕ) (scan : ScanPlan) → slice_get plan.scans number ≡ Some scan → (kept : List KeptEpoch) (rest : List (List KeptEpoch))
      → covering (sizes_of plan) number m keeps ≡ kept ∷ rest
      → merged_cells (sizes_of plan) keeps number m ≡ integration_cells plan (rotated plan files scan) scan m
  first-covers number m scan there kept rest begins =
      let first : slice_get (covering (sizes_of plan) number m keeps) 0 ≡ Some kept =
      ap (λ (images : List (List KeptEpoch)). slice_get images 0) begins in
      let known = covering-are number m 0 kept first in
      ap (λ (images : List (List KeptEpoch)). shard_cells (sizes_of plan) number m (first_image images)) begins
      ∙ shard_cells-are plan files number m scan is there kept known.0 known.1

  module _ (passes : verdict (sizes_of plan) keeps ≡ None) where
    passes-at : (number m : ℕ) (size : ScanSize) → slice_get (sizes_of plan).scans number ≡ Some size → size.first ≤ m
        → m < size.first + integration_count (sizes_of plan) size
        → (k : ℕ) × (verdict_at (sizes_of plan) keeps k (number, m) ≡ None)
    unfolding verdict
    passes-at number m size there low high = verdict-none (sizes_of plan) keeps number m size passes there low high

    -- the cells of an integration
    merged_cells-are : (number m : ℕ) (scan : ScanPlan) → slice_get plan.scans number ≡ Some scan → m < integrations_of plan scan
        → merged_cells (sizes_of plan) keeps number m ≡ cells_from plan files number m
    merged_cells-are number m scan there inside =
        let at : slice_get (sizes_of plan).scans number ≡ Some (size_of plan scan) =
        slice_get-map (size_of plan) plan.scans number ∙ ap (option_map (size_of plan)) there in
        let whole : scan.samples ≡ scan.samples - 0 * plan.integration = omega arith in
        let count : m < 0 + integration_count (sizes_of plan) (size_of plan scan) =
        omega (arith, inside, ap (λ (n : ℕ). div_ceil n plan.integration) whole) in
        let passed = passes-at number m (size_of plan scan) at (omega arith) count in
        let some = verdict_on-some (sizes_of plan) passed.0 (shard_cells (sizes_of plan) number m)
        (covering (sizes_of plan) number m keeps) passed.1 in
        first-covers number m scan there some.0 some.1 some.2
        ∙ sym (ap
        (λ (o : Option ScanPlan). option_map_or (λ (s : ScanPlan). integration_cells plan (rotated plan files s) s m) o []) there)

    -- those of a scan
    scan_cells-are : (number : ℕ) (s : HeadScan) → slice_get (head_of plan).scans number ≡ Some s
        → scan_cells (head_of plan) (merged_cells (sizes_of plan) keeps) (number, s)
        ≡ scan_cells (head_of plan) (cells_from plan files) (number, s)
    scan_cells-are number s there =
        let found : (scan : ScanPlan) × (slice_get plan.scans number ≡ Some scan) × (head_scan scan ≡ s) =
        map-back head_scan (slice_get plan.scans number) s (sym (slice_get-map head_scan plan.scans number) ∙ there) in
        let count : ℕ = counts.integrations_of (head_of plan) s in
        let same : integrations_of plan found.0 ≡ counts.integrations_of (head_of plan) s =
        ap (λ (h : HeadScan). counts.integrations_of (head_of plan) h) found.2 in
        flat_map-same (merged_cells (sizes_of plan) keeps number) (cells_from plan files number) (range_with_len 0 count)
        (Each-range (λ m. merged_cells (sizes_of plan) keeps number m ≡ cells_from plan files number m) 0 count
        (λ m low high. merged_cells-are number m found.0 found.1 (omega (arith, high, same))))

    all_cells-are : all_cells (head_of plan) (merged_cells (sizes_of plan) keeps) ≡ all_cells (head_of plan) (cells_from plan files)
    unfolding all_cells
    all_cells-are =
        let Same : ℕ × HeadScan → Type 0 =
        λ s. scan_cells (head_of plan) (merged_cells (sizes_of plan) keeps) s ≡ scan_cells (head_of plan) (cells_from plan files) s in
        flat_map-same (scan_cells (head_of plan) (merged_cells (sizes_of plan) keeps)) (scan_cells (head_of plan) (cells_from plan files))
        (enumerate_from 0 (head_of plan).scans)
        (Each-enumerate Same 0 (head_of plan).scans
        (λ i s there.
        let here : i ≡ 0 + i = omega arith in
        subst (λ (n : ℕ). Same (n, s)) here (scan_cells-are i s there)))

    -- the record file
    pub merged-output : merged plan keeps ≡ output plan files
    unfolding merged
    merged-output = ap (vis_text (head_of plan)) all_cells-are ∙ output-numbered plan files
