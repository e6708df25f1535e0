-- What the cells of epochs add up to.
use Rattle.std.specs.Prelude.{ℕ, ◌+◌, ◌*◌, ◌%◌, ◌^◌, ◌==◌, ◌&&◌, Bool, if◌then◌else◌, List, [], ◌∷◌, length, replicate}
use Rattle.std.specs.Int.{w64, int_wrapping_add}
use Rattle.std.specs.List.{enumerate_from}
use Rattle.corr_model.specs.declared.cell.Cell.{Cell}
use Rattle.corr_model.specs.Cell.{no_cell}
use Rattle.piece_plan.specs.declared.epoch.EpochPlan.{EpochPlan}
use Rattle.piece_plan.specs.Epochs.{epochs_of}
use Rattle.job_plan.specs.declared.plan.ScanPlan.{ScanPlan}
use Rattle.job_plan.specs.declared.plan.Plan.{Plan}
use Rattle.job_epochs.specs.Sizes.{sizes_of}

-- two cells, each of whose numbers is added with wrap at 64 bits
abbrev pub plus_wrapped : Cell → Cell → Cell
plus_wrapped c d = record {
  re = int_wrapping_add w64 c.re d.re;
  im = int_wrapping_add w64 c.im d.im;
  count = (c.count + d.count) % 2 ^ 64;
}

-- two lists of cells, place by place; what one list has beyond the other's end stays as it is
abbrev pub add_cells : List Cell → List Cell → List Cell
add_cells [] more = []
add_cells (c ∷ cells) [] = c ∷ cells
add_cells (c ∷ cells) (d ∷ more) = plus_wrapped c d ∷ add_cells cells more

-- an epoch of integration m of the scan of a number
abbrev pub is_of : ℕ → ℕ → EpochPlan → Bool
is_of number m e = (e.scan == number) && (e.m == m)

-- the cells so far, and those of each epoch of an integration behind them; `cells` are those of each epoch by its number
abbrev pub added_from : (ℕ → List Cell) → ℕ → ℕ → List Cell → List (ℕ × EpochPlan) → List Cell
added_from cells number m sum [] = sum
added_from cells number m sum (e ∷ epochs) =
    added_from cells number m (if is_of number m e.1 then add_cells sum (cells e.0) else sum) epochs

-- how many cells an integration of a scan has
abbrev pub width_of : Plan → ScanPlan → ℕ
width_of plan scan = length plan.products * length scan.baselines * plan.lags

-- the cells of integration m of the scan of a number: what those of its epochs add up to
unfoldable pub added_cells : Plan → (ℕ → List Cell) → ScanPlan → ℕ → ℕ → List Cell
added_cells plan cells scan number m =
    added_from cells number m (replicate (width_of plan scan) no_cell) (enumerate_from 0 (epochs_of (sizes_of plan)))
