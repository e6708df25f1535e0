-- The records of a head, integration by integration.
use Rattle.std.specs.Prelude.{ℕ, List, [], length, flat_map, slice_get}
use Rattle.std.specs.List.{range_with_len}
use Rattle.std.specs.Option.{option_map_or}
use Rattle.corr_model.specs.declared.cell.Cell.{Cell}
use Rattle.corr_model.specs.Records.{Head, HeadScan, records_text, product_places}
use Rattle.vis_writer.specs.Cells.{CellsOf, integrations_of}

-- the records of an integration
abbrev pub integration_text : Head → ℕ → HeadScan → CellsOf → ℕ → List ℕ
integration_text head number s of m = records_text head.lags (product_places head number s m) (of number m)

-- the records of a scan
abbrev pub scan_text_by : Head → CellsOf → ℕ → HeadScan → List ℕ
scan_text_by head of number s = flat_map (integration_text head number s of) (range_with_len 0 (integrations_of head s))

-- the same by the scan's number, none past the last scan
abbrev pub text_at : Head → CellsOf → ℕ → List ℕ
text_at head of number = option_map_or (scan_text_by head of number) (slice_get head.scans number) []

-- the records of all scans
abbrev pub scans_text : Head → CellsOf → List ℕ
scans_text head of = flat_map (text_at head of) (range_with_len 0 (length head.scans))

-- the records of integration m of the scan of a number with these cells, none past the last scan
abbrev pub integration_at : Head → ℕ → ℕ → List Cell → List ℕ
integration_at head number m cells =
    option_map_or (λ (s : HeadScan). records_text head.lags (product_places head number s m) cells) (slice_get head.scans number) []
