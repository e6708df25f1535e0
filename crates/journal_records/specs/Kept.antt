-- The record file that the epochs of a journal add up to.
use Rattle.std.specs.Prelude.{ℕ, if◌then◌else◌, List, [], ◌∷◌, replicate, slice_get, Option, Result}
use Rattle.std.specs.Option.{option_map_or}
use Rattle.corr_model.specs.declared.cell.Cell.{Cell}
use Rattle.corr_model.specs.Cell.{no_cell}
use Rattle.corr_model.specs.Records.{vis_text}
use Rattle.job_plan.specs.declared.plan.ScanPlan.{ScanPlan}
use Rattle.job_plan.specs.declared.plan.Plan.{Plan}
use Rattle.job_plan.specs.Output.{head_of}
use Rattle.job_epochs.specs.Sizes.{sizes_of}
use Rattle.job_epochs.specs.Added.{add_cells, is_of, width_of}
use Rattle.checkpoint_journal.specs.Cells.{body_cells}
use Rattle.journal_image.specs.Image.{KeptEpoch, Keeps}
use Rattle.vis_writer.specs.Cells.{CellsOf, all_cells}
use Rattle.vis_writer.specs.Writes.{Appended}

-- the cells so far, and those of each kept epoch of integration m of the scan of a number, one behind the other
abbrev pub added_kept : ℕ → ℕ → List Cell → List KeptEpoch → List Cell
added_kept number m sum [] = sum
added_kept number m sum (k ∷ kept) =
    added_kept number m (if is_of number m k.epoch then add_cells sum (body_cells k.body) else sum) kept

-- the cells of an integration: what those of its epochs add up to, with wrap at 64 bits
abbrev pub kept_cells : Plan → List KeptEpoch → CellsOf
kept_cells plan kept number m =
    option_map_or (λ (scan : ScanPlan). added_kept number m (replicate (width_of plan scan) no_cell) kept) (slice_get plan.scans number) []

-- the plan's record file with these cells
unfoldable pub kept_text : Plan → List KeptEpoch → List ℕ
kept_text plan kept = vis_text (head_of plan) (all_cells (head_of plan) (kept_cells plan kept))

-- the record file of what an image keeps was appended, or with a fault a first part of it
pub record WritesKept {T E : Type 0} (id : List ℕ) (plan : Plan) (image : List ℕ) (old new : Option (List ℕ)) (result : Result T E) : Type 0 where
  pub kept : List KeptEpoch
  pub keeps : Keeps id (sizes_of plan) image kept
  pub appended : Appended old (kept_text plan kept) new result

-- some text was appended, or with a fault a first part of it
abbrev pub Grows : {T E : Type 0} → Option (List ℕ) → Option (List ℕ) → Result T E → Type 0
Grows {T = T} {E = E} old new result = (text : List ℕ) × Appended old text new result
