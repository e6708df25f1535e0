-- The best point so far.
use Rattle.std.specs.Prelude.{◌≡◌, ℕ, ◌<◌, ◌≤◌, ℤ, pos, ◌-ℤ◌, ◌≤ℤ◌}
use Rattle.fringe_search.specs.declared.grid.Grid.{Grid}
use Rattle.fringe_search.specs.declared.peak.Point.{Point}
use Rattle.fringe_search.specs.Layout.{Series}
use Rattle.fringe_search.specs.Sums.{re_at, im_at, power_at}
use Rattle.fringe_search.specs.Peaks.{IsRate, Leads}

-- a lag, by its number, and a rate of the grid, with the sum and the power there
pub record IsPoint (s : Series) (g : Grid) (p : Point) : Type 0 where
  pub lag : p.lag < s.lags
  pub rate : IsRate g.rates p.rate
  pub re : p.sum.re ≡ re_at s g.divide p.lag p.rate
  pub im : p.sum.im ≡ im_at s g.divide p.lag p.rate
  pub power : p.power ≡ power_at s g.divide p.lag p.rate

-- The point (l, r) leads all points before rate n of a lag, and is not behind that one.
pub record Ahead (power : ℕ → ℤ → ℕ) (rates l : ℕ) (r : ℤ) (lag n : ℕ) : Type 0 where
  pub earlier : (lag' : ℕ) (rate : ℤ) → lag' < lag → IsRate rates rate → Leads power l r lag' rate
  pub here : (k : ℕ) → k < n → Leads power l r lag (pos k -ℤ pos rates)
  pub late : l ≤ lag
  pub rate_late : l ≡ lag → r ≤ℤ (pos n -ℤ pos rates)

-- a point of the grid that leads all points before rate n of a lag
pub record IsBest (s : Series) (g : Grid) (lag n : ℕ) (p : Point) : Type 0 where
  pub point : IsPoint s g p
  pub ahead : Ahead (power_at s g.divide) g.rates p.lag p.rate lag n
