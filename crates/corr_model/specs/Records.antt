-- The text of a record file: a head, the records in their order, an end. Numbers stand with the lowest
-- byte first.
use Rattle.std.specs.Prelude.{◌≡◌, ℕ, ◌+◌, ◌*◌, ◌%◌, ◌^◌, ◌≤◌, ◌<◌, ◌⊎◌, FitsSigned, List, [], ◌∷◌, ◌++◌, length, take, drop, map, flat_map, codes, AllPairs}
use Rattle.std.specs.Int.{w64, cast_unsigned, div_ceil}
use Rattle.std.specs.List.{All, range_with_len, enumerate_from}
use Rattle.byteorder.specs.Endian.{little_bytes}
use Rattle.corr_model.specs.declared.cell.Cell.{Cell}
use Rattle.corr_model.specs.declared.records.RecordAt.{RecordAt}

-- a scan: its name, the second at which it starts, its length in samples, and its baselines, each the numbers
-- of its two stations
pub record HeadScan : Type 0 where
  pub name : List ℕ
  pub second : ℕ
  pub samples : ℕ
  pub baselines : List (ℕ × ℕ)

-- what a head says: the number of lags, an integration's length in samples, the samples in a second, the
-- stations' keys, the products' channels, and the scans
pub record Head : Type 0 where
  pub lags : ℕ
  pub integration : ℕ
  pub rate : ℕ
  pub stations : List (List ℕ)
  pub products : List (List ℕ × List ℕ)
  pub scans : List HeadScan

-- a name has 1 to 255 bytes
abbrev pub IsName : List ℕ → Type 0
IsName name = (1 ≤ length name) × (length name ≤ 255)

-- a baseline of the stations below a number, the first not behind the second
abbrev pub IsBaseline : ℕ → ℕ × ℕ → Type 0
IsBaseline stations b = (b.0 ≤ b.1) × (b.1 < stations)

-- one baseline comes before another: by the first station, and then by the second
abbrev pub IsBefore : ℕ × ℕ → ℕ × ℕ → Type 0
IsBefore b c = (b.0 < c.0) ⊎ ((b.0 ≡ c.0) × (b.1 < c.1))

pub record IsHeadScan (stations : ℕ) (s : HeadScan) : Type 0 where
  pub name : IsName s.name
  pub second : s.second < 2 ^ 32
  pub samples : s.samples ≤ 2 ^ 40
  pub some_baseline : 1 ≤ length s.baselines
  pub baselines : length s.baselines ≤ 528
  pub each : All (IsBaseline stations) s.baselines
  pub rising : AllPairs IsBefore s.baselines

-- the numbers of a head are in their ranges, and its baselines rise
pub record IsHead (head : Head) : Type 0 where
  pub some_lags : 2 ≤ head.lags
  pub lags : head.lags ≤ 1024
  pub even : head.lags % 2 ≡ 0
  pub some_integration : 1 ≤ head.integration
  pub integration : head.integration ≤ 2 ^ 36
  pub some_rate : 1 ≤ head.rate
  pub rate : head.rate < 2 ^ 32
  pub some_station : 1 ≤ length head.stations
  pub stations : length head.stations ≤ 32
  pub keys : All IsName head.stations
  pub some_product : 1 ≤ length head.products
  pub products : length head.products ≤ 256
  pub channels : All (λ (p : List ℕ × List ℕ). IsName p.0 × IsName p.1) head.products
  pub few_scans : length head.scans < 2 ^ 32
  pub scans : All (IsHeadScan (length head.stations)) head.scans

-- a name: its length, then its bytes
abbrev pub name_text : List ℕ → List ℕ
name_text name = little_bytes 2 (length name) ++ name

abbrev pub product_text : List ℕ × List ℕ → List ℕ
product_text p = name_text p.0 ++ name_text p.1

abbrev pub baseline_text : ℕ × ℕ → List ℕ
baseline_text b = little_bytes 4 b.0 ++ little_bytes 4 b.1

abbrev pub scan_text : HeadScan → List ℕ
scan_text s =
    name_text s.name
    ++ little_bytes 8 s.second
    ++ little_bytes 8 s.samples
    ++ little_bytes 4 (length s.baselines)
    ++ flat_map baseline_text s.baselines

-- the head
unfoldable pub head_text : Head → List ℕ
head_text head =
    codes "VLBIVIS1"
    ++ little_bytes 4 head.lags
    ++ little_bytes 8 head.integration
    ++ little_bytes 8 head.rate
    ++ little_bytes 4 (length head.stations)
    ++ flat_map name_text head.stations
    ++ little_bytes 4 (length head.products)
    ++ flat_map product_text head.products
    ++ little_bytes 4 (length head.scans)
    ++ flat_map scan_text head.scans

abbrev pub cell_text : Cell → List ℕ
cell_text c =
    little_bytes 8 (cast_unsigned w64 c.re)
    ++ little_bytes 8 (cast_unsigned w64 c.im)
    ++ little_bytes 8 c.count

-- a record: its mark and its numbers, then its cells by rising lag
unfoldable pub record_text : RecordAt → List Cell → List ℕ
record_text at cells =
    (1 ∷ [])
    ++ little_bytes 4 at.scan
    ++ little_bytes 8 at.m
    ++ little_bytes 4 at.product
    ++ little_bytes 4 at.baseline
    ++ flat_map cell_text cells

-- the end: its mark and the number of records
abbrev pub end_text : ℕ → List ℕ
end_text count = (255 ∷ []) ++ little_bytes 8 count

-- the records that a head asks for, in the order scan, integration, product, baseline
abbrev pub baseline_places : ℕ → HeadScan → ℕ → ℕ → List RecordAt
baseline_places number s m product =
    map (λ (b : ℕ). record { scan = number; m = m; product = product; baseline = b })
    (range_with_len 0 (length s.baselines))

abbrev pub product_places : Head → ℕ → HeadScan → ℕ → List RecordAt
product_places head number s m =
    flat_map (baseline_places number s m) (range_with_len 0 (length head.products))

abbrev pub scan_places : Head → ℕ → HeadScan → List RecordAt
scan_places head number s =
    flat_map (product_places head number s) (range_with_len 0 (div_ceil s.samples head.integration))

unfoldable pub places_of : Head → List RecordAt
places_of head = flat_map (λ (s : ℕ × HeadScan). scan_places head s.0 s.1) (enumerate_from 0 head.scans)

-- the records at these places, each with the next cells, as many as there are lags
unfoldable pub records_text : ℕ → List RecordAt → List Cell → List ℕ
records_text lags [] cells = []
records_text lags (at ∷ places) cells =
    record_text at (take lags cells) ++ records_text lags places (drop lags cells)

-- the whole text of a head and the cells of its records
unfoldable pub vis_text : Head → List Cell → List ℕ
vis_text head cells =
    head_text head ++ records_text head.lags (places_of head) cells ++ end_text (length (places_of head))

-- the numbers of a cell have their 64 bits
pub record IsCell (c : Cell) : Type 0 where
  pub re : FitsSigned w64 c.re
  pub im : FitsSigned w64 c.im
  pub count : c.count < 2 ^ 64

-- a head, and one cell for each lag of each of its records
pub record IsVis (head : Head) (cells : List Cell) : Type 0 where
  pub head_is : IsHead head
  pub count : length cells ≡ head.lags * length (places_of head)
  pub cells_are : All IsCell cells
