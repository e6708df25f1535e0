-- Which cells of a record file belong to a scan, a product and a baseline.
use Rattle.std.specs.Prelude.{◌≡◌, ℕ, ◌+◌, ◌*◌, ◌^◌, ◌<◌, ◌≤◌, List, [], length, take, drop, map, flat_map, sum_by, slice_index_or, pos}
use Rattle.std.specs.Int.{div_ceil}
use Rattle.std.specs.List.{range_with_len}
use Rattle.corr_model.specs.declared.cell.Cell.{Cell}
use Rattle.corr_model.specs.Records.{Head, HeadScan}
use Rattle.vis_records.specs.Content.{Content}
use Rattle.fringe_search.specs.declared.places.SeriesAt.{SeriesAt}

-- a scan, by its number
abbrev pub no_scan : HeadScan
no_scan = record { name = []; second = 0; samples = 0; baselines = [] }

abbrev pub scan_at : Head → ℕ → HeadScan
scan_at head scan = slice_index_or head.scans scan no_scan

-- how many integrations a scan has, how many records each of them, and how many records in all
abbrev pub integrations_of : Head → HeadScan → ℕ
integrations_of head s = div_ceil s.samples head.integration

abbrev pub records_each : Head → HeadScan → ℕ
records_each head s = length head.products * length s.baselines

abbrev pub records_of : Head → HeadScan → ℕ
records_of head s = integrations_of head s * records_each head s

-- how many records the scans before one have
unfoldable pub records_before : Head → ℕ → ℕ
records_before head scan = sum_by (records_of head) (take scan head.scans)

-- the numbers of a scan, a product and a baseline of the head
pub record IsSeriesAt (head : Head) (at : SeriesAt) : Type 0 where
  pub scan : at.scan < length head.scans
  pub product : at.product < length head.products
  pub baseline : at.baseline < length (scan_at head at.scan).baselines

-- A series in a list of cells: of each integration the cells of all lags, by rising lag. Those of the first integration stand
-- at `first`, those of each later one `stride` cells further.
pub record Series : Type 0 where
  pub cells : List Cell
  pub first : ℕ
  pub stride : ℕ
  pub integrations : ℕ
  pub lags : ℕ

abbrev pub no_cell : Cell
no_cell = record { re = pos 0; im = pos 0; count = 0 }

-- the cell of an integration at a lag, by the lag's number
abbrev pub cell_at : Series → ℕ → ℕ → Cell
cell_at s m i = slice_index_or s.cells (s.first + m * s.stride + i) no_cell

-- the series of a scan, a product and a baseline, in the cells of that scan and of those behind it
unfoldable pub series_of : Content → SeriesAt → Series
series_of content at = record {
  cells = drop (content.head.lags * records_before content.head at.scan) content.cells;
  first = content.head.lags * (at.product * length (scan_at content.head at.scan).baselines + at.baseline);
  stride = content.head.lags * records_each content.head (scan_at content.head at.scan);
  integrations = integrations_of content.head (scan_at content.head at.scan);
  lags = content.head.lags;
}

-- all cells of a series stand in its list
pub record IsWithin (s : Series) : Type 0 where
  pub some_lags : 0 < s.lags
  pub lags : s.lags ≤ 1024
  pub integrations : s.integrations ≤ 2 ^ 40
  pub cells : (m : ℕ) → m < s.integrations → s.first + m * s.stride + s.lags ≤ length s.cells

-- the cells of a lag of one series are those of a lag of another
pub record IsLagOf (s : Series) (lag : ℕ) (t : Series) (number : ℕ) : Type 0 where
  pub within : number < t.lags
  pub integrations : t.integrations ≡ s.integrations
  pub cells : (m : ℕ) → m < s.integrations → cell_at t m number ≡ cell_at s m lag

-- all scans, products and baselines of a head, in this order
abbrev pub product_series : Head → ℕ → ℕ → List SeriesAt
product_series head scan product =
    map (λ (b : ℕ). record { scan = scan; product = product; baseline = b }) (range_with_len 0 (length (scan_at head scan).baselines))

abbrev pub scan_series : Head → ℕ → List SeriesAt
scan_series head scan = flat_map (product_series head scan) (range_with_len 0 (length head.products))

unfoldable pub series_in : Head → List SeriesAt
series_in head = flat_map (scan_series head) (range_with_len 0 (length head.scans))
