-- What calls tell of the epochs that a file keeps.
use Rattle.std.specs.Prelude.{◌≡◌, ℕ, ◌≤◌, true, List, length, take, slice_get, Option, Some, None, option_map}
use Rattle.corr_model.specs.declared.cell.Cell.{Cell}
use Rattle.piece_plan.specs.declared.epoch.EpochPlan.{EpochPlan}
use Rattle.piece_plan.specs.Epochs.{JobSizes, IsEpoch, cell_count}
use Rattle.piece_plan.specs.Order.{job_start}
use Rattle.checkpoint_journal.specs.Cells.{body_text, body_cells}
use Rattle.journal_image.specs.Image.{is_blank, KeptEpoch, Reading, Reads, Keeps}
use Rattle.plan_places.specs.Places.{place_at}
use Rattle.checkpoint_journal.specs.declared.seen.Seen.{Seen}

-- an epoch with the text of these cells
abbrev pub kept_epoch : EpochPlan → List Cell → KeptEpoch
kept_epoch e cells = record { epoch = e; body = body_text cells }

-- an image that keeps so many epochs, in all
pub record KeepsMany (id : List ℕ) (job : JobSizes) (image : List ℕ) (n : ℕ) : Type 0 where
  pub kept : List KeptEpoch
  pub keeps : Keeps id job image kept
  pub many : length kept ≡ n

-- epoch k of those that an image keeps is this one, and these first cells are those of its body
pub record ReadsEpoch (id : List ℕ) (job : JobSizes) (image : List ℕ) (k : ℕ) (e : EpochPlan) (cells : List Cell) : Type 0 where
  pub kept : List KeptEpoch
  pub keeps : Keeps id job image kept
  pub body : List ℕ
  pub at : slice_get kept k ≡ Some (record { epoch = e; body = body })
  pub cells_are : take (cell_count e) cells ≡ body_cells body

-- the next one behind k epochs is read, or none, where there are no more
abbrev pub ReadsNext : List ℕ → JobSizes → List ℕ → ℕ → Option EpochPlan → List Cell → Type 0
ReadsNext id job image k None cells = KeepsMany id job image k
ReadsNext id job image k (Some e) cells = ReadsEpoch id job image k e cells

-- room for the cells of each epoch of the job
abbrev pub HoldsAny : JobSizes → List Cell → Type 0
HoldsAny job cells = (e : EpochPlan) → IsEpoch job e → cell_count e ≤ length cells

-- How many epochs an image keeps, and the place behind the last of them: the job's first one where there is none, and none
-- where they cover the job.
pub record Sees (id : List ℕ) (job : JobSizes) (image : List ℕ) (s : Seen) : Type 0 where
  pub many : KeepsMany id job image s.kept
  pub blank : is_blank image ≡ true → option_map place_at s.next ≡ job_start job
  pub next : (r : Reading) → Reads id job image r → option_map place_at s.next ≡ r.due.place
