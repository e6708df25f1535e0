-- The epochs that a journal keeps, listed with the byte places of their cells.
use Rattle.std.specs.Prelude.{◌≡◌, ℕ, ◌+◌, ◌≤◌, ◌^◌, List, Result, Ok, Err}
use Rattle.std.specs.List.{AllZip}
use Rattle.dev_traits.specs.Fault.{HasRisen}
use Rattle.piece_plan.specs.Epochs.{JobSizes, IsEpoch, IsOfPlan, cell_count}
use Rattle.journal_image.specs.Image.{KeptEpoch, Keeps}
use Rattle.checkpoint_journal.specs.declared.fault.ListFault.{ListFault}
use Rattle.checkpoint_journal.specs.declared.fault.ListFault.TheVariants.{Disk, Memory}
use Rattle.checkpoint_journal.specs.declared.finding.Found.{Found}
use Rattle.checkpoint_journal.specs.declared.listed.KeptAt.{KeptAt}
use Rattle.checkpoint_journal.specs.Cells.{cells_at, body_cells}
use Rattle.checkpoint_journal.specs.Next.{TellsRead}

-- the cells of a kept epoch stand at this byte place
pub record IsKeptAt (image : List ℕ) (k : KeptEpoch) (a : KeptAt) : Type 0 where
  pub epoch : a.epoch ≡ k.epoch
  pub cells : cells_at image a.at (cell_count k.epoch) ≡ body_cells k.body

-- the epochs that an image keeps are those of a list, in its order
pub record Lists (id : List ℕ) (job : JobSizes) (image : List ℕ) (listed : List KeptAt) : Type 0 where
  pub kept : List KeptEpoch
  pub keeps : Keeps id job image kept
  pub places : AllZip (IsKeptAt image) kept listed

-- an epoch of the job whose cells begin at no byte past 2^63 + 28
pub record IsPlaced (job : JobSizes) (a : KeptAt) : Type 0 where
  pub epoch : IsEpoch job a.epoch
  pub of_plan : IsOfPlan a.epoch
  pub place : a.at ≤ 2 ^ 63 + 28

-- the next record behind a gate is of this epoch and has its cells at this place, and a later gate stands directly behind it
abbrev pub TellsListed : JobSizes → List ℕ → Found → ℕ → KeptAt → Found → Type 0
TellsListed job image f last a g = TellsRead job image f last a.epoch g (cells_at image a.at (cell_count a.epoch))

-- where the disk is blamed its count rose, and with any other answer it did not
abbrev pub CountsList : {T : Type 0} → ℕ → ℕ → Result T ListFault → Type 0
CountsList before now (Ok kept) = now ≡ before
CountsList before now (Err Disk) = HasRisen before now
CountsList before now (Err Memory) = now ≡ before
