-- The cells of a record file, integration by integration.
use Rattle.std.specs.Prelude.{◌≡◌, ℕ, ◌*◌, ◌<◌, max, List, length, fold, flat_map, slice_get}
use Rattle.std.specs.Int.{div_ceil}
use Rattle.std.specs.List.{range_with_len, enumerate_from}
use Rattle.std.specs.Option.{option_map_or}
use Rattle.corr_model.specs.declared.cell.Cell.{Cell}
use Rattle.corr_model.specs.Records.{Head, HeadScan}

-- The cells of an integration, by the number of its scan in the head and by its own number in the scan: product by
-- product, within a product baseline by baseline, within a baseline by rising lag.
abbrev pub CellsOf : Type 0
CellsOf = ℕ → ℕ → List Cell

-- how many integrations a scan has, and how many records and cells each of them has
abbrev pub integrations_of : Head → HeadScan → ℕ
integrations_of head s = div_ceil s.samples head.integration

abbrev pub records_of : Head → HeadScan → ℕ
records_of head s = length head.products * length s.baselines

abbrev pub cells_of : Head → HeadScan → ℕ
cells_of head s = records_of head s * head.lags

-- the same by the scan's number, none past the last scan
abbrev pub integrations_at : Head → ℕ → ℕ
integrations_at head number = option_map_or (integrations_of head) (slice_get head.scans number) 0

abbrev pub cells_at : Head → ℕ → ℕ
cells_at head number = option_map_or (cells_of head) (slice_get head.scans number) 0

-- the most cells that an integration has
abbrev pub widest : Head → ℕ
widest head = fold (λ most s. max most (cells_of head s)) 0 head.scans

-- each integration of the head has its cells
abbrev pub IsFull : Head → CellsOf → Type 0
IsFull head cells = (number m : ℕ) → m < integrations_at head number → length (cells number m) ≡ cells_at head number

-- all cells of a head: scan by scan, within a scan integration by integration
abbrev pub scan_cells : Head → CellsOf → ℕ × HeadScan → List Cell
scan_cells head cells s = flat_map (cells s.0) (range_with_len 0 (integrations_of head s.1))

unfoldable pub all_cells : Head → CellsOf → List Cell
all_cells head cells = flat_map (scan_cells head cells) (enumerate_from 0 head.scans)
