-- Rows of a station's values through a scan.
use Rattle.std.specs.Prelude.{ℕ, ◌==◌, ℤ, pos, ◌-ℤ◌, None, if◌then◌else◌}
use Rattle.corr_model.specs.Cell.{Value, Samples, is_inside}
use Rattle.packed_values.specs.From.{value_from}
use Rattle.packed_values.specs.Packed.{values_of}
use Rattle.lag_kernel.specs.declared.row.Row.{Row}

-- the value at sample n, none before the row and behind it
abbrev pub row_value : Row → ℤ → Value
row_value r n = value_from (values_of r.packed) (n -ℤ pos r.from)

-- the value at a sample of the scan, none outside the scan
abbrev pub row_inside : Row → ℕ → ℤ → Value
row_inside r samples n = if is_inside n samples then row_value r n else None

-- those of two stations: a's of station 0, and b's of station 1
abbrev pub row_samples : Row → Row → Samples
row_samples a b station chan n = if station == 0 then row_value a n else row_value b n
