-- Rows of codes, one a sample.
use Rattle.std.specs.Prelude.{ℕ, ◌+◌, ◌*◌, ◌^◌, ◌<◌, ◌≤◌, ◌≡◌, ℤ, pos, ◌-ℤ◌, List, [], None, length, map, slice_index_or, Vec}
use Rattle.std.specs.Global.{Global}
use Rattle.corr_model.specs.Cell.{Value}
use Rattle.value_codes.specs.Codes.{value_of}
use Rattle.packed_values.specs.From.{value_from}
use Rattle.bit_planes.specs.Planes.{PlanesFields}
use Rattle.epoch_run.specs.Planes.{planed}

-- a row of the codes of a scan, which has at most 2^40 samples, from sample `from` on
abbrev pub IsRowOf : ℕ → Vec ℕ Global → Type 0
IsRowOf from row = from + length row.items ≤ 2 ^ 40

-- the values of each row
abbrev pub row_values : List (Vec ℕ Global) → List (List Value)
row_values rows = map (λ row. map value_of row.items) rows

-- the value that the row at a place has at sample n, where it begins with sample `from`; none before it and behind its last one
abbrev pub row_value : ℕ → List (Vec ℕ Global) → ℕ → ℤ → Value
row_value from rows i n = value_from (slice_index_or (row_values rows) i []) (n -ℤ pos from)

-- planes of so many channels a station, whose values the rows have, station by station
pub record HoldRows (from : ℕ) (chans : ℕ) (rows : List (Vec ℕ Global)) (planes : List (List PlanesFields)) : Type 0 where
  pub here : (station chan : ℕ) (n : ℤ) → station < length planes → chan < chans → planed planes station chan n ≡ row_value from rows (station * chans + chan) n
  pub past : (station chan : ℕ) (n : ℤ) → chans ≤ chan → planed planes station chan n ≡ None
