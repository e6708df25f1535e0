-- The clock at a knot.
use Rattle.std.proofs.Common.{◌≡◌, ℕ, ◌*◌, ◌^◌, ◌<◌, true, List, [], ◌∷◌, ◌⊎◌, ⊎_elim, inl, inr, Option, Some, None, is_some, ℤ, pos, ◌+ℤ◌, ◌-ℤ◌, ◌*ℤ◌, ◌≤ℤ◌, ◌<ℤ◌, refl, sym, ap, ◌∙◌, arith}
use Rattle.std.proofs.lemmas.Int.{ints}
use Rattle.std.proofs.lemmas.Bool.{false≢true, cases_Bool}
use Rattle.std.proofs.lemmas.List.Elements.{All-contains}
use Rattle.entry_list.specs.Latest.{IsLatest, in_force}
use Rattle.entry_list.proofs.InForce.{in_force-IsInForce, in_force-none_before}
use Rattle.delay_poly.specs.declared.entry.PolyEntry.{PolyEntry}
use Rattle.station_clock.specs.declared.entry.ClockEntry.{ClockEntry}
use Rattle.corr_model.specs.Delay.{DelayModel, IsDelayModel, IsClock, clock_second, poly_at, clock_of, clock_samples, clock_at_knot, is_modelled, is_clocked, has_model, has_clock}
use Rattle.station_clock.specs.Reading.{reading}
use Rattle.delay_track.specs.Model.{IsKnot}
use Rattle.delay_track.proofs.Polynomials.{modelled_poly, poly_at-later}
use Rattle.delay_track.proofs.AllSamples.{all_from_each, each_from_all, fails_from_one}
use Rattle.delay_track.proofs.Samples.{product_low, product_high, product_sum}

-- the clock entry in force at a polynomial's second is in its ranges and has begun
pub record IsClockFor (e : PolyEntry) (c : ClockEntry) : Type 0 where
  pub ranges : IsClock c
  pub begun : c.second ≤ℤ e.second

pub IsClockFor-clock_of : (m : DelayModel) (samples : ℕ) (e : PolyEntry) (c : ClockEntry) → IsDelayModel m samples → clock_of m e ≡ Some c → IsClockFor e c
unfolding clock_of
IsClockFor-clock_of m samples e c h is =
    let latest : IsLatest clock_second m.clocks e.second c = rw is at (in_force-IsInForce clock_second m.clocks e.second) in
    record {
      ranges = All-contains IsClock m.clocks c h.clocks latest.among;
      begun = latest.not_after;
    }

-- the samples from its second to a knot are a natural number
pub clock_samples-begun : (m : DelayModel) (e : PolyEntry) (c : ClockEntry) (j : ℕ) → IsClockFor e c → pos 0 ≤ℤ clock_samples m e c j
clock_samples-begun m e c j h =
    let product = product_low (e.second -ℤ c.second) 0 m.rate (omega (arith, ints, h.begun)) in
    omega (arith, ints, product)

-- and less than those of 2^32 seconds
pub clock_samples-within : (m : DelayModel) (samples : ℕ) (e : PolyEntry) (c : ClockEntry) (j : ℕ) → IsDelayModel m samples → IsKnot m e j → IsClockFor e c
    → clock_samples m e c j <ℤ pos (2 ^ 32 * m.rate)
clock_samples-within m samples e c j model knot h =
    let high : (m.start -ℤ c.second) ≤ℤ pos 4102444799 = omega (arith, ints, h.ranges.second, model.start) in
    let product = product_high (m.start -ℤ c.second) 4102444799 m.rate high in
    let seconds : e.second -ℤ c.second ≡ (e.second -ℤ m.start) +ℤ (m.start -ℤ c.second) = omega (arith, ints) in
    let apart = ap (λ (s : ℤ). s *ℤ pos m.rate) seconds ∙ product_sum (e.second -ℤ m.start) (m.start -ℤ c.second) m.rate in
    omega (arith, ints, product, apart, knot.within, model.some_rate, model.knot)

pub clock_of-entries : (m : DelayModel) (e : PolyEntry) → clock_of m e ≡ in_force clock_second m.clocks e.second
unfolding clock_of
clock_of-entries m e = refl

pub clock_at_knot-none : (m : DelayModel) (e : PolyEntry) (j : ℕ) → clock_of m e ≡ None → clock_at_knot m e j ≡ pos 0
clock_at_knot-none m e j is = rw is refl

pub clock_at_knot-some : (m : DelayModel) (e : PolyEntry) (j : ℕ) (c : ClockEntry) → clock_of m e ≡ Some c
    → clock_at_knot m e j ≡ reading c.c0 c.c1 (clock_samples m e c j) m.rate
clock_at_knot-some m e j c is = rw is refl

-- a station has no clock entries, or a first one
cases_clocks : (clocks : List ClockEntry) → (clocks ≡ []) ⊎ ((c : ClockEntry) × (rest : List ClockEntry) × (clocks ≡ c ∷ rest))
cases_clocks [] = inl refl
cases_clocks (c ∷ rest) = inr (c, rest, refl)

pub is_clocked-none : (m : DelayModel) (n : ℕ) → m.clocks ≡ [] → is_clocked m n ≡ true
unfolding is_clocked
is_clocked-none m n h = rw h refl

is_clocked-some : (m : DelayModel) (n : ℕ) (e : PolyEntry) (c : ClockEntry) (rest : List ClockEntry) → m.clocks ≡ c ∷ rest → poly_at m n ≡ Some e
    → is_clocked m n ≡ is_some (clock_of m e)
unfolding is_clocked
is_clocked-some m n e c rest h is =
    let there = rw h at is in
    rw h (rw there refl)

-- a sample of a station with clock entries has a clock where one is in force at its polynomial's second
pub is_clocked-entries : (m : DelayModel) (n : ℕ) (e : PolyEntry) → (m.clocks ≡ [] → ⊥) → poly_at m n ≡ Some e → is_clocked m n ≡ is_some (clock_of m e)
is_clocked-entries m n e some is =
    ⊎_elim (λ none. absurd (some none)) (λ first. is_clocked-some m n e first.0 first.1 first.2 is) (cases_clocks m.clocks)

some_or_none : {A : Type 0} (o : Option A) → (is_some o ≡ true) ⊎ (o ≡ None)
some_or_none None = inr refl
some_or_none (Some x) = inl refl

-- a later polynomial has a clock where an earlier one has
pub is_some-clock_of : (m : DelayModel) (first later : PolyEntry) → first.second ≤ℤ later.second → is_some (clock_of m first) ≡ true → is_some (clock_of m later) ≡ true
is_some-clock_of m first later order some =
    ⊎_elim
    (λ there. there)
    (λ none.
    let before = in_force-none_before clock_second m.clocks first.second later.second order (sym (clock_of-entries m later) ∙ none) in
    let nowhere : clock_of m first ≡ None = clock_of-entries m first ∙ before in
    absurd (false≢true (rw nowhere at some)))
    (some_or_none (clock_of m later))

-- So the scan's samples have a clock where its first sample has, if all have a model.
pub has_clock-first : (m : DelayModel) (samples : ℕ) (e : PolyEntry) → IsDelayModel m samples → has_model m samples ≡ true → 0 < samples → (m.clocks ≡ [] → ⊥)
    → poly_at m 0 ≡ Some e
    → has_clock m samples ≡ is_some (clock_of m e)
has_clock-first m samples e model modelled some entries is =
    ⊎_elim
    (λ there. all_from_each (is_clocked m) samples (λ n inside.
    let later = modelled_poly m n (each_from_all (is_modelled m) samples n modelled inside) in
    let order = poly_at-later m 0 n e later.0 (omega (arith, model.some_rate)) (omega arith) is later.1 in
    is_clocked-entries m n later.0 entries later.1 ∙ is_some-clock_of m e later.0 order there) ∙ sym there)
    (λ none.
    let fails = is_clocked-entries m 0 e entries is ∙ none in
    fails_from_one (is_clocked m) samples 0 some fails ∙ sym none)
    (cases_Bool (is_some (clock_of m e)))

-- and they have one where the station has no entries, or the scan no samples
pub has_clock-none : (m : DelayModel) (samples : ℕ) → m.clocks ≡ [] → has_clock m samples ≡ true
has_clock-none m samples none = all_from_each (is_clocked m) samples (λ n _. is_clocked-none m n none)

pub has_clock-empty : (m : DelayModel) (samples : ℕ) → samples ≡ 0 → has_clock m samples ≡ true
has_clock-empty m samples none = all_from_each (is_clocked m) samples (λ n inside. absurd (omega arith))
