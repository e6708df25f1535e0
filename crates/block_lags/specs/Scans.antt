-- Rows of values that hold the samples of a scan.
use Rattle.std.specs.Prelude.{◌≡◌, ℕ, ◌+◌, ◌<◌, ℤ, pos, ◌+ℤ◌, None, if◌then◌else◌}
use Rattle.corr_model.specs.declared.cell.Pair.{Pair}
use Rattle.corr_model.specs.Cell.{Value, Samples, is_inside}
use Rattle.byte_streams.specs.declared.row.Row.{Row}
use Rattle.byte_streams.specs.Rows.{row_len, row_value}

-- the second station's value at a sample number, none outside the scan
abbrev pub value_inside : Samples → Pair → ℕ → ℤ → Value
value_inside z pair samples n = if is_inside n samples then z pair.b pair.y n else None

-- the first station's values of the samples from `from` on, and the second one's, of which the first goes with sample `from` at
-- the least lag
pub record AreRows (z : Samples) (pair : Pair) (samples from : ℕ) (least : ℤ) (s t : Row) : Type 0 where
  pub first : (k : ℕ) → k < row_len s → row_value s k ≡ z pair.a pair.x (pos (from + k))
  pub second : (j : ℕ) → j < row_len t → row_value t j ≡ value_inside z pair samples (pos (from + j) +ℤ least)
