-- What follows from the definitions for every record file.
use Rattle.std.specs.Prelude.{◌≡◌, ℕ, ◌+◌, ◌*◌, ◌<◌, List, [], ◌∷◌, flat_map, Some, slice_get, slice_index_or}
use Rattle.std.specs.List.{All}
use Rattle.corr_model.specs.Records.{places_of}
use Rattle.vis_records.specs.Content.{Content}
use Rattle.fringe_search.specs.declared.grid.Grid.{Grid}
use Rattle.fringe_search.specs.declared.places.SeriesAt.{SeriesAt}
use Rattle.fringe_search.specs.Layout.{IsSeriesAt, no_cell, cell_at, series_of, series_in}
use Rattle.fringe_search.specs.Peaks.{IsPeak}
use Rattle.fringe_search.specs.Certificates.{Line, PeakLine}

-- The record of a scan, an integration, a product and a baseline is the record of some number that the head asks for, and its
-- cells are those of the series in that integration.
pub record IsCellsOf (content : Content) (at : SeriesAt) (m : ℕ) : Type 0 where
  pub number : ℕ
  pub record_is : slice_get (places_of content.head) number ≡ Some (record { scan = at.scan; m = m; product = at.product; baseline = at.baseline })
  pub cells : (lag : ℕ) → cell_at (series_of content at) m lag ≡ slice_index_or content.cells (content.head.lags * number + lag) no_cell

abbrev pub HasItsCells : Content → Type 0
HasItsCells content = (at : SeriesAt) (m : ℕ) → IsSeriesAt content.head at → m < (series_of content at).integrations → IsCellsOf content at m

-- A peak's line names the peak, and there is one of each scan, product and baseline, in their order.
abbrev pub IsOfPeak : Content → Grid → Line → Type 0
IsOfPeak content g (PeakLine at p) = IsPeak (series_of content at) g p
IsOfPeak content g _ = Unit {0}

abbrev pub series_named : Line → List SeriesAt
series_named (PeakLine at p) = at ∷ []
series_named _ = []

pub record HasItsPeaks (content : Content) (g : Grid) (lines : List Line) : Type 0 where
  pub peaks : All (IsOfPeak content g) lines
  pub series : flat_map series_named lines ≡ series_in content.head
