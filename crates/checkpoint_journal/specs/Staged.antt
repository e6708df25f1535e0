-- What stands behind a gate before it is opened.
use Rattle.std.specs.Prelude.{◌≡◌, ℕ, ◌+◌, ◌*◌, ◌<◌, ◌^◌, List, [], ◌∷◌, ◌++◌, length}
use Rattle.corr_model.specs.declared.cell.Cell.{Cell}
use Rattle.piece_plan.specs.declared.epoch.EpochPlan.{EpochPlan}
use Rattle.checkpoint_journal.specs.Runs.{put_over, IsDue}
use Rattle.piece_plan.specs.Epochs.{JobSizes, IsOfPlan, cell_count}
use Rattle.journal_image.specs.Image.{Thing, Reading}

-- the image in which a thing is due behind a gate, with these bytes of the thing and a closed gate written behind that gate
pub record IsStaged (id : List ℕ) (job : JobSizes) (r : Reading) (t : Thing) (gate : ℕ) (bytes image : List ℕ) : Type 0 where
  pub before : List ℕ
  pub due : IsDue id job r t gate bytes before
  pub is : image ≡ put_over (gate + 1) (bytes ++ 0 ∷ []) before

-- an epoch with its cells, whose record and a gate behind it have room from a place on, and a buffer to write them through
pub record FitsAt (e : EpochPlan) (cells : List Cell) (at : ℕ) (buffer : List ℕ) : Type 0 where
  pub of_plan : IsOfPlan e
  pub many : length cells ≡ cell_count e
  pub room : at + (28 + 24 * length cells) + 1 < 2 ^ 63
  pub parts : length buffer ≡ 960000
