-- The peak of a grid: the greatest power; among equals that at the least lag, then at the least rate.
use Rattle.std.specs.Prelude.{◌≡◌, ℕ, ◌^◌, ◌<◌, ◌≤◌, ℤ, pos, neg_ℤ, ◌≤ℤ◌, List, ◌∷◌, ◌++◌}
use Rattle.std.specs.List.{All}
use Rattle.corr_model.specs.Lags.{lag_of}
use Rattle.vis_records.specs.Content.{Content}
use Rattle.fringe_search.specs.declared.grid.Grid.{Grid}
use Rattle.fringe_search.specs.declared.grid.Peak.{Peak}
use Rattle.fringe_search.specs.declared.places.SeriesAt.{SeriesAt}
use Rattle.fringe_search.specs.Layout.{Series, IsSeriesAt, series_of, series_in}
use Rattle.fringe_search.specs.Sums.{re_at, im_at, power_at, amplitude_at}

-- a rate of the grid
pub record IsRate (rates : ℕ) (rate : ℤ) : Type 0 where
  pub least : neg_ℤ (pos rates) ≤ℤ rate
  pub most : rate ≤ℤ pos rates

-- A power at (l, r) is not below one at (lag, rate); where both are equal, (l, r) is not behind (lag, rate).
pub record IsAhead (top l : ℕ) (r : ℤ) (power lag : ℕ) (rate : ℤ) : Type 0 where
  pub most : power ≤ top
  pub lag_first : power ≡ top → l ≤ lag
  pub rate_first : power ≡ top → lag ≡ l → r ≤ℤ rate

abbrev pub Leads : (ℕ → ℤ → ℕ) → ℕ → ℤ → ℕ → ℤ → Type 0
Leads power l r lag rate = IsAhead (power l r) l r (power lag rate) lag rate

-- a lag, by its number, and a rate of the grid, with the sum there
pub record IsPointOf (s : Series) (g : Grid) (p : Peak) (number : ℕ) : Type 0 where
  pub within : number < s.lags
  pub lag : p.lag ≡ lag_of s.lags number
  pub rate : IsRate g.rates p.rate
  pub re : p.re ≡ re_at s g.divide number p.rate
  pub im : p.im ≡ im_at s g.divide number p.rate

-- the peak of a series on a grid
pub record IsPeak (s : Series) (g : Grid) (p : Peak) : Type 0 where
  pub number : ℕ
  pub point : IsPointOf s g p number
  pub leads : (lag : ℕ) (rate : ℤ) → lag < s.lags → IsRate g.rates rate → Leads (power_at s g.divide) number p.rate lag rate

-- each lag's amplitude is below 2^49
abbrev pub IsSmall : Series → Type 0
IsSmall s = (lag : ℕ) → lag < s.lags → amplitude_at s lag < 2 ^ 49

abbrev pub AreSmall : Content → Type 0
AreSmall content = (at : SeriesAt) → IsSeriesAt content.head at → IsSmall (series_of content at)

-- the first amplitude of 2^49 or more in a series, and in a record file
pub record IsFirstLargeOf (s : Series) (amplitude : ℕ) : Type 0 where
  pub lag : ℕ
  pub within : lag < s.lags
  pub is : amplitude ≡ amplitude_at s lag
  pub large : 2 ^ 49 ≤ amplitude
  pub before : (l : ℕ) → l < lag → amplitude_at s l < 2 ^ 49

pub record IsFirstLarge (content : Content) (amplitude : ℕ) : Type 0 where
  pub before : List SeriesAt
  pub at : SeriesAt
  pub behind : List SeriesAt
  pub is : series_in content.head ≡ before ++ at ∷ behind
  pub small : All (λ (at : SeriesAt). IsSmall (series_of content at)) before
  pub first : IsFirstLargeOf (series_of content at) amplitude
