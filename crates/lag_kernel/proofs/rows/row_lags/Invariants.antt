use Rattle.std.proofs.Common.{◌≡◌, ℕ, ◌-◌, ◌<◌, ◌≤◌, length, get_or}
use Rattle.corr_model.specs.declared.cell.Cell.{Cell}
use Rattle.corr_model.specs.Cell.{cell_in}
use Rattle.corr_model.specs.Lags.{lag_of}
use Rattle.corr_model.proofs.CellLemmas.{IsGrown}
use Rattle.lag_kernel.specs.Planes.{plane_pair}
use Rattle.lag_kernel.specs.Rows.{row_samples}
use Rattle.lag_kernel.proofs.rows.row_lags.Given as goal

abbrev pub invariant-loop-at : goal.invariant-loop-at
invariant-loop-at l = record {
  begun : l.from ≤ l.at;
  within : l.at ≤ l.to;
  cells : (k : ℕ) (d : Cell) → k < length l.fn.out → get_or l.out k d ≡ cell_in (row_samples l.a l.b) plane_pair l.samples (lag_of (length l.fn.out) k) l.from l.at;
  grown : (k : ℕ) (d : Cell) → k < length l.fn.out → IsGrown (get_or l.out k d) (l.at - l.from);
}

abbrev pub decreases-loop-at : goal.decreases-loop-at
decreases-loop-at l = l.to - l.at
