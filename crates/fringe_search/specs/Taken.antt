-- Lines that are taken from the front of a text.
use Rattle.std.specs.Prelude.{◌≡◌, ◌≢◌, ℕ, ℤ, List, ◌++◌}
use Rattle.corr_model.specs.Lags.{lag_of}
use Rattle.fringe_search.specs.declared.grid.Grid.{Grid}
use Rattle.fringe_search.specs.declared.claim.Mark.{Mark}
use Rattle.fringe_search.specs.declared.grid.Peak.{Peak}
use Rattle.fringe_search.specs.declared.peak.Point.{Point}
use Rattle.fringe_search.specs.declared.places.SeriesAt.{SeriesAt}
use Rattle.fringe_search.specs.Layout.{Series}
use Rattle.fringe_search.specs.Peaks.{IsPointOf}
use Rattle.fringe_search.specs.Best.{IsPoint}
use Rattle.fringe_search.specs.Certificates.{PeakLine, LagLine, line_text, IsTrueMark}
use Rattle.fringe_search.specs.Written.{shown}

-- a text does not begin with these bytes
abbrev pub Lacks : List ℕ → List ℕ → Type 0
Lacks text front = (rest : List ℕ) → text ≢ front ++ rest

-- a grid has these numbers
pub record IsGridOf (rates divide : ℕ) (g : Grid) : Type 0 where
  pub rates_is : g.rates ≡ rates
  pub divide_is : g.divide ≡ divide

-- a point of the grid, at this lag, by its number, and this rate
pub record IsPointAt (s : Series) (g : Grid) (lag : ℕ) (rate : ℤ) (p : Point) : Type 0 where
  pub point : IsPoint s g p
  pub lag_is : p.lag ≡ lag
  pub rate_is : p.rate ≡ rate

-- a text begins with the true line of a peak, whose point this is, and goes on with `rest`
pub record HasPeakLine (s : Series) (g : Grid) (at : SeriesAt) (text : List ℕ) (p : Point) (rest : List ℕ) : Type 0 where
  pub point : IsPoint s g p
  pub is : text ≡ line_text (PeakLine at (shown (lag_of s.lags p.lag) p)) ++ rest

-- a text begins with no true line of a peak
abbrev pub HasNoPeakLine : Series → Grid → SeriesAt → List ℕ → Type 0
HasNoPeakLine s g at text = (p : Peak) (n : ℕ) (rest : List ℕ) → IsPointOf s g p n → text ≢ line_text (PeakLine at p) ++ rest

-- a text begins with a true line of a lag beside a peak, and goes on with `rest`
pub record HasLagLine (s : Series) (g : Grid) (p : Point) (lag : ℕ) (text rest : List ℕ) : Type 0 where
  pub mark : Mark
  pub holds : IsTrueMark s g p.lag p.rate lag mark
  pub is : text ≡ line_text (LagLine (lag_of s.lags lag) mark) ++ rest

-- a text begins with no true line of a lag with this reason, and with none at all
abbrev pub HasNoMark : Series → Grid → Point → ℕ → List ℕ → Mark → Type 0
HasNoMark s g p lag text mark = (rest : List ℕ) → IsTrueMark s g p.lag p.rate lag mark → text ≢ line_text (LagLine (lag_of s.lags lag) mark) ++ rest

abbrev pub HasNoLagLine : Series → Grid → Point → ℕ → List ℕ → Type 0
HasNoLagLine s g p lag text = (mark : Mark) → HasNoMark s g p lag text mark
