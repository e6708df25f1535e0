-- The delay of a station at each sample of a scan, in units of 2^-32 sample: its polynomial and its clock at the
-- two knots about the sample, and the straight line between them
-- (Thompson, Moran and Swenson, chapters 8 and 9).
use Rattle.std.specs.Prelude.{ℕ, ◌+◌, ◌*◌, ◌/◌, ◌%◌, ◌^◌, ◌≤◌, ◌<◌, ℤ, pos, ◌+ℤ◌, ◌-ℤ◌, ◌*ℤ◌, unsigned_abs, Bool, true, false, nat_le, is_some, List, [], ◌∷◌, Option, Some, None}
use Rattle.std.specs.Int.{int_div_euclid}
use Rattle.std.specs.List.{All, list_all, range_with_len}
use Rattle.num_time.specs.Times.{IsSecond}
use Rattle.entry_list.specs.Latest.{in_force}
use Rattle.delay_poly.specs.Nested.{nested}
use Rattle.delay_poly.specs.declared.entry.PolyEntry.{PolyEntry}
use Rattle.station_clock.specs.Reading.{reading}
use Rattle.station_clock.specs.declared.entry.ClockEntry.{ClockEntry}

-- What the delay of a station in a scan depends on: the station's polynomials and clock entries, the second at
-- which the scan starts, the samples in a second, and the samples from one knot to the next.
pub record DelayModel : Type 0 where
  pub polys : List PolyEntry
  pub clocks : List ClockEntry
  pub start : ℤ
  pub rate : ℕ
  pub knot : ℕ

abbrev pub poly_second : PolyEntry → ℤ
poly_second e = e.second

abbrev pub clock_second : ClockEntry → ℤ
clock_second c = c.second

-- the second in which sample n lies
abbrev pub second_at : DelayModel → ℕ → ℤ
second_at m n = m.start +ℤ pos (n / m.rate)

-- the polynomial zero from the scan's start on
abbrev pub zero_poly : DelayModel → PolyEntry
zero_poly m = record { second = m.start; poly = pos 0 ∷ [] }

-- The polynomial in force at sample n: that of a station without polynomials is zero, and another station has
-- none where all of its polynomials begin later.
unfoldable pub poly_at : DelayModel → ℕ → Option PolyEntry
poly_at m n = among m.polys
  where
    among : List PolyEntry → Option PolyEntry
    among [] = Some (zero_poly m)
    among (e ∷ polys) = in_force poly_second (e ∷ polys) (second_at m n)

-- the samples from a polynomial's second to sample n, as whole knots and what is left
abbrev pub samples_since : DelayModel → PolyEntry → ℕ → ℕ
samples_since m e n = unsigned_abs (pos n -ℤ (e.second -ℤ m.start) *ℤ pos m.rate)

abbrev pub knot_before : DelayModel → PolyEntry → ℕ → ℕ
knot_before m e n = samples_since m e n / m.knot

abbrev pub past_knot : DelayModel → PolyEntry → ℕ → ℕ
past_knot m e n = samples_since m e n % m.knot

-- the clock entry in force at the polynomial's second
unfoldable pub clock_of : DelayModel → PolyEntry → Option ClockEntry
clock_of m e = in_force clock_second m.clocks e.second

-- the samples from the clock entry's second to knot j of the polynomial
abbrev pub clock_samples : DelayModel → PolyEntry → ClockEntry → ℕ → ℤ
clock_samples m e c j = (e.second -ℤ c.second) *ℤ pos m.rate +ℤ pos (j * m.knot)

-- what the clock is ahead at knot j: nothing without an entry
abbrev pub clock_at_knot : DelayModel → PolyEntry → ℕ → ℤ
clock_at_knot m e j = ahead (clock_of m e)
  where
    ahead : Option ClockEntry → ℤ
    ahead None = pos 0
    ahead (Some c) = reading c.c0 c.c1 (clock_samples m e c j) m.rate

-- polynomial and clock at knot j
unfoldable pub knot_delay : DelayModel → PolyEntry → ℕ → ℤ
knot_delay m e j = nested e.poly j +ℤ clock_at_knot m e j

-- on the line from one knot's delay to the next one's, so many samples of `knot` past the first, rounded down
abbrev pub between : ℤ → ℤ → ℕ → ℕ → ℤ
between first next past knot = first +ℤ int_div_euclid ((next -ℤ first) *ℤ pos past) (pos knot)

unfoldable pub delay_by : DelayModel → PolyEntry → ℕ → ℤ
delay_by m e n =
    between (knot_delay m e (knot_before m e n)) (knot_delay m e (knot_before m e n + 1)) (past_knot m e n) m.knot

-- the delay at sample n, zero where no polynomial is in force
unfoldable pub delay_at : DelayModel → ℕ → ℤ
delay_at m n = by (poly_at m n)
  where
    by : Option PolyEntry → ℤ
    by None = pos 0
    by (Some e) = delay_by m e n

-- the whole samples of a delay: the nearest number, and of two the greater
abbrev pub nearest : ℤ → ℤ
nearest delay = int_div_euclid (delay +ℤ pos (2 ^ 31)) (pos (2 ^ 32))

abbrev pub whole_at : DelayModel → ℕ → ℤ
whole_at m n = nearest (delay_at m n)

-- Sample n has a model: a polynomial is in force, and the knot after it is at most knot 2^24. No bound is set
-- on the knots of a station without polynomials.
unfoldable pub is_modelled : DelayModel → ℕ → Bool
is_modelled m n = among m.polys
  where
    reaches : Option PolyEntry → Bool
    reaches None = false
    reaches (Some e) = nat_le (knot_before m e n + 1) (2 ^ 24)

    among : List PolyEntry → Bool
    among [] = true
    among (e ∷ polys) = reaches (poly_at m n)

-- Sample n has a clock: the station has no clock entries, or one is in force at the second of the polynomial.
unfoldable pub is_clocked : DelayModel → ℕ → Bool
is_clocked m n = among m.clocks
  where
    begun : Option PolyEntry → Bool
    begun None = true
    begun (Some e) = is_some (clock_of m e)

    among : List ClockEntry → Bool
    among [] = true
    among (c ∷ clocks) = begun (poly_at m n)

-- all samples of the scan have a model, and a clock
abbrev pub has_model : DelayModel → ℕ → Bool
has_model m samples = list_all (is_modelled m) (range_with_len 0 samples)

abbrev pub has_clock : DelayModel → ℕ → Bool
has_clock m samples = list_all (is_clocked m) (range_with_len 0 samples)

-- a clock entry of these years, whose offset and drift are in their ranges
pub record IsClock (c : ClockEntry) : Type 0 where
  pub second : IsSecond c.second
  pub offset : unsigned_abs c.c0 < 2 ^ 57
  pub drift : unsigned_abs c.c1 < 2 ^ 25

-- The scans, rates, knots and entries that there are: a scan has at most 2^40 samples and 2^27 seconds.
pub record IsDelayModel (m : DelayModel) (samples : ℕ) : Type 0 where
  pub start : IsSecond m.start
  pub polys : All (λ e. IsSecond e.second) m.polys
  pub clocks : All IsClock m.clocks
  pub some_rate : 0 < m.rate
  pub rate : m.rate < 2 ^ 32
  pub some_knot : 1 ≤ m.knot
  pub knot : m.knot ≤ 2 ^ 24
  pub most : samples ≤ 2 ^ 40
  pub seconds : samples ≤ 2 ^ 27 * m.rate
