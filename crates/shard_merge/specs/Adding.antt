-- Cells that are read where they stand, and added.
use Rattle.std.specs.Prelude.{ℕ, ◌+◌, ◌^◌, ◌≤◌, List, [], ◌∷◌, ◌++◌, take, drop}
use Rattle.corr_model.specs.declared.cell.Cell.{Cell}
use Rattle.piece_plan.specs.Epochs.{IsOfPlan, cell_count}
use Rattle.job_epochs.specs.Added.{add_cells}
use Rattle.checkpoint_journal.specs.Cells.{cells_at}
use Rattle.checkpoint_journal.specs.declared.listed.KeptAt.{KeptAt}

-- an epoch whose cells can be read: they begin at no byte past 2^63 + 28
pub record IsWithin (a : KeptAt) : Type 0 where
  pub of_plan : IsOfPlan a.epoch
  pub place : a.at ≤ 2 ^ 63 + 28

-- the cells of an epoch, where they stand in an image
abbrev pub cells_in : List ℕ → KeptAt → List Cell
cells_in image a = cells_at image a.at (cell_count a.epoch)

-- the cells so far, and those of each of some epochs
abbrev pub added_in : List ℕ → List Cell → List KeptAt → List Cell
added_in image sum [] = sum
added_in image sum (a ∷ kept) = added_in image (add_cells sum (cells_in image a)) kept

-- n cells are added to the sums from place `done` on
abbrev pub added_part : List Cell → ℕ → ℕ → List Cell → List Cell
added_part sums done n cells = take done sums ++ (add_cells (take n (drop done sums)) cells ++ drop (done + n) sums)
