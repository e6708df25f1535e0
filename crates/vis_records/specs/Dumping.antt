-- Lines of records on their way to a sink.
use Rattle.std.specs.Prelude.{◌≡◌, ℕ, List, [], ◌∷◌, drop, Option}
use Rattle.corr_model.specs.declared.cell.Cell.{Cell}
use Rattle.corr_model.specs.declared.records.RecordAt.{RecordAt}
use Rattle.sink_text.specs.Written.{StretchState, Puts}
use Rattle.vis_records.specs.Dumped.{records_lines}

-- the cells behind those of the records at these places
unfoldable pub cells_behind : ℕ → List RecordAt → List Cell → List Cell
cells_behind lags [] cells = cells
cells_behind lags (at ∷ places) cells = cells_behind lags places (drop lags cells)

-- the lines of the records at these places are put, with the next cells, and these cells are left
pub record PutsRecords (lags : ℕ) (places : List RecordAt) (cells left : List Cell) (old new : StretchState)
    (told_old told_new : Option (List ℕ)) (faults_old faults_new : ℕ) : Type 0 where
  pub puts : Puts (records_lines lags places cells) old new told_old told_new faults_old faults_new
  pub behind : left ≡ cells_behind lags places cells
