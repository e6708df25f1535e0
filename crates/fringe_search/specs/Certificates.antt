-- The certificate of a grid's peaks: a line of the grid; then of each scan, product and baseline a line of its peak, and behind
-- that one of each lag, by rising lag.
use Rattle.std.specs.Prelude.{◌≡◌, ℕ, ◌+◌, ◌<◌, ℤ, List, [], ◌∷◌, ◌++◌, flat_map, codes, decimal, nat_lt, if◌then◌else◌}
use Rattle.std.specs.Fmt.{signed_decimal}
use Rattle.corr_model.specs.Lags.{lag_of}
use Rattle.vis_records.specs.Content.{Content}
use Rattle.fringe_search.specs.declared.grid.Grid.{Grid}
use Rattle.fringe_search.specs.declared.grid.Peak.{Peak}
use Rattle.fringe_search.specs.declared.claim.Mark.{Mark}
use Rattle.fringe_search.specs.declared.claim.Mark.TheVariants.{Bound, Grid as Gridded}
use Rattle.fringe_search.specs.declared.places.SeriesAt.{SeriesAt}
use Rattle.fringe_search.specs.Layout.{Series, series_of, series_in}
use Rattle.fringe_search.specs.Sums.{power_at, bound_at}
use Rattle.fringe_search.specs.Peaks.{IsRate, Leads, IsPointOf}

-- a line: of the grid; of the peak of a scan, a product and a baseline; of a lag, with the reason why it has no better point
pub data Line : Type 0 where
  GridLine : Grid → Line
  PeakLine : SeriesAt → Peak → Line
  LagLine : ℤ → Mark → Line

abbrev pub mark_text : Mark → List ℕ
mark_text Bound = codes " bound\n"
mark_text Gridded = codes " grid\n"

-- the front of a peak's line
abbrev pub place_text : SeriesAt → List ℕ
place_text at = codes "peak " ++ (decimal at.scan ++ 32 ∷ (decimal at.product ++ 32 ∷ (decimal at.baseline ++ 32 ∷ [])))

-- its end: the sum
abbrev pub sums_text : ℤ → ℤ → List ℕ
sums_text re im = signed_decimal re ++ 32 ∷ (signed_decimal im ++ 10 ∷ [])

abbrev pub peak_text : Peak → List ℕ
peak_text p = signed_decimal p.lag ++ 32 ∷ (signed_decimal p.rate ++ 32 ∷ sums_text p.re p.im)

abbrev pub line_text : Line → List ℕ
line_text (GridLine g) = codes "grid " ++ (decimal g.rates ++ 32 ∷ (decimal g.divide ++ 10 ∷ []))
line_text (PeakLine at p) = place_text at ++ peak_text p
line_text (LagLine lag mark) = codes "lag " ++ (signed_decimal lag ++ mark_text mark)

abbrev pub lines_text : List Line → List ℕ
lines_text lines = flat_map line_text lines

-- The reason is true beside a peak at (l, r): the bound of the lag is less than the power there; or that point leads each rate
-- of the lag.
abbrev pub IsTrueMark : Series → Grid → ℕ → ℤ → ℕ → Mark → Type 0
IsTrueMark s g l r lag Bound = bound_at s lag < power_at s g.divide l r
IsTrueMark s g l r lag Gridded = (rate : ℤ) → IsRate g.rates rate → Leads (power_at s g.divide) l r lag rate

-- what a peak's line has said: where, on which grid, at which lag, by its number, and rate
pub record Claim : Type 0 where
  pub grid : Grid
  pub at : SeriesAt
  pub lag : ℕ
  pub rate : ℤ

-- which line is due: that of the grid; that of the next peak of those that are left; that of a lag beside a peak
pub data Due : Type 0 where
  AtGrid : Due
  AtPeak : Grid → List SeriesAt → Due
  AtLag : Claim → ℕ → List SeriesAt → Due

-- what is due beside a peak behind the lags before one
abbrev pub from_lag : ℕ → Claim → ℕ → List SeriesAt → Due
from_lag lags c lag left = if nat_lt lag lags then AtLag c lag left else AtPeak c.grid left

-- a peak's line is the due one and true: its point is of the grid and has this sum
pub record IsPeakLine (content : Content) (g : Grid) (due at : SeriesAt) (p : Peak) (left : List SeriesAt) (next : Due) : Type 0 where
  pub at_is : at ≡ due
  pub number : ℕ
  pub point : IsPointOf (series_of content due) g p number
  pub next_is : next ≡ from_lag content.head.lags (record { grid = g; at = due; lag = number; rate = p.rate }) 0 left

-- a lag's line is the due one and true
pub record IsLagLine (content : Content) (c : Claim) (number : ℕ) (lag : ℤ) (mark : Mark) (left : List SeriesAt) (next : Due) : Type 0 where
  pub lag_is : lag ≡ lag_of content.head.lags number
  pub mark_is : IsTrueMark (series_of content c.at) c.grid c.lag c.rate number mark
  pub next_is : next ≡ from_lag content.head.lags c (number + 1) left

-- A line is the due one and true, and `next` is due behind it.
abbrev pub IsLine : Content → Due → Line → Due → Type 0
IsLine content AtGrid (GridLine g) next = next ≡ AtPeak g (series_in content.head)
IsLine content (AtPeak g (due ∷ left)) (PeakLine at p) next = IsPeakLine content g due at p left next
IsLine content (AtLag c number left) (LagLine lag mark) next = IsLagLine content c number lag mark left next
IsLine content _ _ _ = ⊥

-- each line of a list
unfoldable pub AreLines : Content → Due → List Line → Due → Type 0
AreLines content due [] next = due ≡ next
AreLines content due (line ∷ lines) next = (behind : Due) × IsLine content due line behind × AreLines content behind lines next

-- a right text: all its lines are the due ones and true, and none is due behind them
pub record IsRight (content : Content) (text : List ℕ) : Type 0 where
  pub grid : Grid
  pub lines : List Line
  pub are : AreLines content AtGrid lines (AtPeak grid [])
  pub is : text ≡ lines_text lines
