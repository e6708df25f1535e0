-- How many cells the integrations of a job and of its record file have.
use Rattle.std.specs.Prelude.{slice_get, option_map, replicate}
use Rattle.std.specs.Option.{option_map_or}
use Rattle.std.proofs.Common.{◌≡◌, ◌∙◌, sym, ap, refl, subst, ℕ, ◌*◌, ◌<◌, List, [], ◌∷◌, length, Option, Some, None, arith}
use Rattle.std.proofs.lemmas.List.{length-map, length-replicate}
use Rattle.std.proofs.lemmas.Option.{slice_get-map, slice_get_within}
use Rattle.dev_traits.specs.Told.{WhereTold}
use Rattle.corr_model.specs.declared.cell.Cell.{Cell}
use Rattle.corr_model.specs.Cell.{no_cell}
use Rattle.corr_model.specs.Records.{Head, HeadScan, vis_text, records_text, product_places}
use Rattle.std.specs.List.{flat_map, range_with_len}
use Rattle.piece_plan.specs.declared.job.ScanSize.{ScanSize}
use Rattle.piece_plan.specs.Epochs.{JobSizes}
use Rattle.job_plan.specs.declared.plan.ScanPlan.{ScanPlan}
use Rattle.job_plan.specs.declared.plan.Plan.{Plan}
use Rattle.job_plan.specs.Output.{head_of, head_scan}
use Rattle.job_epochs.specs.Sizes.{size_of, sizes_of}
use Rattle.job_epochs.specs.Added.{add_cells}
use Rattle.job_epochs.proofs.PlacedCells.{length-add_cells}
use Rattle.journal_image.specs.Image.{KeptEpoch}
use Rattle.checkpoint_journal.specs.Cells.{body_cells}
use Rattle.vis_writer.specs.Cells as counts
use Rattle.vis_writer.specs.Cells.{CellsOf, IsFull, all_cells, cells_at}
use Rattle.vis_writer.specs.Texts.{integration_at, text_at}
use Rattle.vis_writer.proofs.FileText.{text_at-some}
use Rattle.vis_writer.proofs.PlanCounts.{scan-cells}
use Rattle.shard_merge.specs.Covers.{width_at, added, kept_in, covering}
use Rattle.shard_merge.specs.Merged.{first_image, merged_cells, merged}
use Rattle.shard_merge.specs.Writing.{IsHeadOf, cells_by}

pub length-added : (sum : List Cell) (kept : List KeptEpoch) → length (added sum kept) ≡ length sum
length-added sum [] = refl
length-added sum (k ∷ kept) = length-added (add_cells sum (body_cells k.body)) kept ∙ length-add_cells sum (body_cells k.body)

-- the merged cells of each integration are as many as the head says
merged-full : (job : JobSizes) (head : Head) (keeps : List (List KeptEpoch)) → IsHeadOf job head → IsFull head (merged_cells job keeps)
merged-full job head keeps is = λ number m inside.
    length-added (replicate (width_at job number) no_cell) (kept_in number m (first_image (covering job number m keeps)))
    ∙ length-replicate (width_at job number) no_cell
    ∙ sym (is.wide number)

pub cells-full : {F : Type 0} (job : JobSizes) (head : Head) (keeps : Option (List (List KeptEpoch))) (shelf : F) → IsHeadOf job head
    → WhereTold (cells_by job keeps shelf) (IsFull head)
cells-full job head None shelf is = tt
cells-full job head (Some keeps) shelf is = merged-full job head keeps is

-- the head and the sizes of a plan
width-same : (plan : Plan) (number : ℕ) → cells_at (head_of plan) number ≡ width_at (sizes_of plan) number
width-same plan number = by (slice_get plan.scans number) refl
  where
    by : (o : Option ScanPlan) → slice_get plan.scans number ≡ o → cells_at (head_of plan) number ≡ width_at (sizes_of plan) number
    by (Some scan) there =
        let mine : width_at (sizes_of plan) number ≡ length plan.products * length scan.baselines * plan.lags =
        ap (λ (o : Option ScanSize). option_map_or (λ (size : ScanSize). size.products * size.baselines * plan.lags) o 0)
        (slice_get-map (size_of plan) plan.scans number ∙ ap (option_map (size_of plan)) there) in
        scan-cells plan number scan there ∙ omega arith ∙ sym mine
    by None there =
        ap (λ (o : Option HeadScan). option_map_or (counts.cells_of (head_of plan)) o 0) (slice_get-map head_scan plan.scans number ∙ ap (option_map head_scan) there)
        ∙ sym (ap (λ (o : Option ScanSize). option_map_or (λ (size : ScanSize). size.products * size.baselines * plan.lags) o 0)
        (slice_get-map (size_of plan) plan.scans number ∙ ap (option_map (size_of plan)) there))

plan-IsHeadOf : (plan : Plan) → IsHeadOf (sizes_of plan) (head_of plan)
plan-IsHeadOf plan = record {
  many = length-map plan.scans head_scan ∙ sym (length-map plan.scans (size_of plan));
  wide = width-same plan;
}

pub head-IsHeadOf : (plan : Plan) (job : JobSizes) (head : Head) → job ≡ sizes_of plan → head ≡ head_of plan → IsHeadOf job head
head-IsHeadOf plan job head cut is =
    subst (λ (j : JobSizes). IsHeadOf j head) (sym cut) (subst (λ (h : Head). IsHeadOf (sizes_of plan) h) (sym is) (plan-IsHeadOf plan))

-- a scan that the head has, the job has too, with as many cells
pub number-within : (job : JobSizes) (head : Head) (number : ℕ) (s : HeadScan) → IsHeadOf job head → slice_get head.scans number ≡ Some s
    → number < length job.scans
number-within job head number s is there = omega (arith, slice_get_within head.scans number s there, is.many)

pub cells-at : (head : Head) (number : ℕ) (s : HeadScan) → slice_get head.scans number ≡ Some s → cells_at head number ≡ counts.cells_of head s
cells-at head number s there = ap (λ (o : Option HeadScan). option_map_or (counts.cells_of head) o 0) there

-- the records of a scan, integration by integration
pub scan-text : (head : Head) (number : ℕ) (s : HeadScan) → slice_get head.scans number ≡ Some s → (of : CellsOf)
    → flat_map (λ m. integration_at head number m (of number m)) (range_with_len 0 (counts.integrations_of head s)) ≡ text_at head of number
scan-text head number s there of =
    ap (λ (o : Option HeadScan). flat_map (λ m. option_map_or (λ (s : HeadScan). records_text head.lags (product_places head number s m) (of number m)) o [])
    (range_with_len 0 (counts.integrations_of head s))) there
    ∙ text_at-some head of number s there

pub merged-is : (plan : Plan) (job : JobSizes) (head : Head) (keeps : List (List KeptEpoch)) → job ≡ sizes_of plan → head ≡ head_of plan
    → vis_text head (all_cells head (merged_cells job keeps)) ≡ merged plan keeps
unfolding merged
merged-is plan job head keeps cut is =
    ap (λ (j : JobSizes). vis_text head (all_cells head (merged_cells j keeps))) cut
    ∙ ap (λ (h : Head). vis_text h (all_cells h (merged_cells (sizes_of plan) keeps))) is
