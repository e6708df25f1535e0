-- The lines that show a record file.
use Rattle.std.specs.Prelude.{ℕ, ℤ, List, [], ◌∷◌, ◌++◌, flat_map, take, drop, codes, decimal}
use Rattle.std.specs.Fmt.{signed_decimal}
use Rattle.std.specs.List.{enumerate_from}
use Rattle.corr_model.specs.declared.cell.Cell.{Cell}
use Rattle.corr_model.specs.declared.records.RecordAt.{RecordAt}
use Rattle.corr_model.specs.Lags.{lag_of}
use Rattle.corr_model.specs.Records.{Head, HeadScan, places_of}
use Rattle.vis_records.specs.Content.{Content}

-- a line of words: a space between two of them, and a line feed behind the last
abbrev pub line : List (List ℕ) → List ℕ
line [] = 10 ∷ []
line (word ∷ []) = word ++ 10 ∷ []
line (word ∷ next ∷ words) = word ++ 32 ∷ line (next ∷ words)

-- the lines of some things, each with its number, counted from 0
abbrev pub numbered : {A : Type 0} → (ℕ → A → List ℕ) → List A → List ℕ
numbered {A} lines things = flat_map (λ (t : ℕ × A). lines t.0 t.1) (enumerate_from 0 things)

-- the number of lags, an integration's length in samples, and the samples in a second
abbrev pub sizes_line : Head → List ℕ
sizes_line head =
    line
    (codes "lags" ∷ decimal head.lags ∷ codes "integration" ∷ decimal head.integration ∷ codes "rate" ∷ decimal head.rate ∷ [])

-- a station's key, and the two channels of a product
abbrev pub station_line : ℕ → List ℕ → List ℕ
station_line number key = line (codes "station" ∷ decimal number ∷ key ∷ [])

abbrev pub product_line : ℕ → List ℕ × List ℕ → List ℕ
product_line number p = line (codes "product" ∷ decimal number ∷ p.0 ∷ p.1 ∷ [])

-- a scan's name, second and samples, and behind it the two stations of each of its baselines
abbrev pub baseline_line : ℕ → ℕ → ℕ × ℕ → List ℕ
baseline_line scan number b = line (codes "baseline" ∷ decimal scan ∷ decimal number ∷ decimal b.0 ∷ decimal b.1 ∷ [])

abbrev pub scan_lines : ℕ → HeadScan → List ℕ
scan_lines number s =
    line (codes "scan" ∷ decimal number ∷ s.name ∷ decimal s.second ∷ decimal s.samples ∷ [])
    ++ numbered (baseline_line number) s.baselines

-- the head
abbrev pub head_lines : Head → List ℕ
head_lines head =
    sizes_line head ++ numbered station_line head.stations ++ numbered product_line head.products ++ numbered scan_lines head.scans

-- a cell: the numbers of its record, its lag, its sums and its count of pairs
abbrev pub cell_line : RecordAt → ℤ → Cell → List ℕ
cell_line at lag c =
    line
    (decimal at.scan ∷ decimal at.m ∷ decimal at.product ∷ decimal at.baseline ∷ signed_decimal lag ∷ signed_decimal c.re
    ∷ signed_decimal c.im
    ∷ decimal c.count
    ∷ [])

-- a record: its cells by rising lag, from minus half the number of lags on
abbrev pub record_lines : ℕ → RecordAt → List Cell → List ℕ
record_lines lags at cells = numbered (λ i. cell_line at (lag_of lags i)) cells

-- the records at these places, each with the next cells, as many as there are lags
unfoldable pub records_lines : ℕ → List RecordAt → List Cell → List ℕ
records_lines lags [] cells = []
records_lines lags (at ∷ places) cells =
    record_lines lags at (take lags cells) ++ records_lines lags places (drop lags cells)

-- the whole text: the lines of the head, then those of the records in their order
unfoldable pub dump_text : Content → List ℕ
dump_text content =
    head_lines content.head ++ records_lines content.head.lags (places_of content.head) content.cells
