-- Epochs that are read one after another.
use Rattle.std.specs.Prelude.{◌≡◌, ℕ, ◌+◌, ◌≤◌, List, take, slice_get, option_map, Option, Some, None}
use Rattle.corr_model.specs.declared.cell.Cell.{Cell}
use Rattle.piece_plan.specs.declared.job.ScanSize.{ScanSize}
use Rattle.piece_plan.specs.declared.epoch.EpochPlan.{EpochPlan}
use Rattle.piece_plan.specs.Epochs.{JobSizes, IsEpoch, integration_at}
use Rattle.piece_plan.specs.Order.{place_of, place_after}
use Rattle.plan_places.specs.Places.{place_at}
use Rattle.job_epochs.specs.Added.{add_cells}
use Rattle.checkpoint_journal.specs.Cells.{body_cells}
use Rattle.journal_image.specs.Image.{KeptEpoch}
use Rattle.checkpoint_journal.specs.Standing.{JournalState}
use Rattle.journal_records.specs.Kept.{added_kept}
use Rattle.journal_records.specs.Places.{place_from}

-- The epoch that was due, which ends at this sample, is read, and its cells are added.
pub record AddsOne (job : JobSizes) (kept : List KeptEpoch) (old new : JournalState) (start sums : List Cell) (end : ℕ) : Type 0 where
  pub e : EpochPlan
  pub is : IsEpoch job e
  pub ends : e.to ≡ end
  pub body : List ℕ
  pub there : slice_get kept old.here.kept ≡ Some (record { epoch = e; body = body })
  pub begins : option_map place_at old.here.next ≡ Some (place_of e)
  pub behind : option_map place_at new.here.next ≡ place_after job e
  pub count : new.here.kept ≡ old.here.kept + 1
  pub added : sums ≡ add_cells start (body_cells body)

-- so is the next one, or no epoch is due
abbrev pub AddsNext : JobSizes → List KeptEpoch → JournalState → JournalState → List Cell → List Cell → Option ℕ → Type 0
AddsNext job kept old new start sums None = option_map place_at old.here.next ≡ None
AddsNext job kept old new start sums (Some end) = AddsOne job kept old new start sums end

-- The epochs of integration m are read up to a sample, and their cells are added.
pub record IsAdded (job : JobSizes) (number : ℕ) (size : ScanSize) (m at : ℕ) (kept : List KeptEpoch) (start sums : List Cell) (j : JournalState) : Type 0 where
  pub within : at ≤ (integration_at job size m).to
  pub up_to : option_map place_at j.here.next ≡ place_from job number size m at
  pub added : sums ≡ added_kept number m start (take j.here.kept kept)
