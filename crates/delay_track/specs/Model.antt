-- The model of a station's delay in a scan, and the knots of its polynomials that the scan reaches.
use Rattle.std.specs.Prelude.{◌≡◌, ℕ, ◌+◌, ◌*◌, ◌^◌, ◌≤◌, ◌≤ℤ◌, ◌⊎◌, ℤ, pos, ◌+ℤ◌, ◌-ℤ◌, ◌*ℤ◌, List, [], ◌∷◌}
use Rattle.num_time.specs.Times.{IsSecond}
use Rattle.delay_poly.specs.declared.entry.PolyEntry.{PolyEntry}
use Rattle.station_clock.specs.declared.entry.ClockEntry.{ClockEntry}
use Rattle.corr_model.specs.Delay.{DelayModel}

-- the model of these entries in a scan that starts at this second, with `rate` samples a second and `knot` samples
-- from one knot to the next
abbrev pub delay_model : List PolyEntry → List ClockEntry → ℤ → ℕ → ℕ → DelayModel
delay_model polys clocks second rate knot = record {
  polys = polys;
  clocks = clocks;
  start = second;
  rate = rate;
  knot = knot;
}

-- Knot j of the polynomial lies at most one knot past 2^27 seconds of the scan, and its number is at most 2^24
-- unless the polynomial is zero.
pub record IsKnot (m : DelayModel) (e : PolyEntry) (j : ℕ) : Type 0 where
  pub second : IsSecond e.second
  pub within : ((e.second -ℤ m.start) *ℤ pos m.rate +ℤ pos (j * m.knot)) ≤ℤ pos (2 ^ 27 * m.rate + m.knot)
  pub number : (e.poly ≡ pos 0 ∷ []) ⊎ (j ≤ 2 ^ 24)
