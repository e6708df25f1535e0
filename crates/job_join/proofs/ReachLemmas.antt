-- The samples through which one polynomial is in force, of a scan of any number of samples.
use Rattle.std.proofs.Common.{◌≡◌, ℕ, ◌/◌, ◌^◌, ◌<◌, ◌≤◌, min, All, true, List, [], ◌∷◌, ◌⊎◌, ⊎_elim, inl, inr, Option, Some, None, option_map, ℤ, pos, ◌+ℤ◌, ◌-ℤ◌, ◌*ℤ◌, ◌≤ℤ◌, w64, FitsSigned, is_some, refl, sym, ap, subst, ◌∙◌, arith}
use Rattle.std.proofs.lemmas.Int.{ints}
use Rattle.std.proofs.lemmas.Bool.{false≢true}
use Rattle.std.proofs.lemmas.Option.{same_Some}
use Rattle.std.proofs.lemmas.List.Elements.{All-contains, All-weaker}
use Rattle.num_time.specs.Times.{IsSecond}
use Rattle.entry_list.specs.Latest.{IsLatest, in_force}
use Rattle.entry_list.proofs.InForce.{in_force-IsInForce, in_force-before, in_force-none_before}
use Rattle.delay_poly.specs.declared.entry.PolyEntry.{PolyEntry}
use Rattle.station_clock.specs.declared.entry.ClockEntry.{ClockEntry}
use Rattle.corr_model.specs.Delay.{DelayModel, IsDelayModel, poly_second, clock_second, second_at, poly_at, samples_since, is_clocked}
use Rattle.delay_track.proofs.Polynomials.{poly_at-none, poly_at-entries, poly_at-before, quotient_rises, is_modelled-late, IsBegun-poly_at}
use Rattle.delay_track.proofs.Samples.{samples_since-pos, product_low}
use Rattle.delay_track.proofs.Stretches.{is_modelled-before}
use Rattle.delay_track.proofs.Clocks.{clock_of-entries, is_clocked-none, is_clocked-entries}
use Rattle.job_join.specs.declared.reach.Need.{Need}
use Rattle.job_join.specs.declared.reach.Need.TheVariants.{Delay, Clock}
use Rattle.job_join.specs.Needs.{is_met}

-- entries that have all begun are in force as they are later
in_force-late : {E : Type 0} (second_of : E → ℤ) (entries : List E) (second later : ℤ) → second ≤ℤ later → All (λ x. second_of x ≤ℤ second) entries
    → in_force second_of entries second ≡ in_force second_of entries later
in_force-late {E} second_of entries second later order all = by (in_force second_of entries later) refl
  where
    by : (found : Option E) → in_force second_of entries later ≡ found → in_force second_of entries second ≡ found
    by None is = in_force-none_before second_of entries second later order is
    by (Some e) is =
        let latest : IsLatest second_of entries later e = rw is at (in_force-IsInForce second_of entries later) in
        in_force-before second_of entries second later e order (All-contains (λ x. second_of x ≤ℤ second) entries e all latest.among) is

min_cases : (q most : ℕ) → (min q most ≡ q) ⊎ ((min q most ≡ most) × (most ≤ q))
min_cases q most = grind arith

-- 2^40 seconds behind the scan's start each polynomial has begun
in_force-near : (m : DelayModel) (q : ℕ) → IsDelayModel m 0 → in_force poly_second m.polys (m.start +ℤ pos (min q (2 ^ 40))) ≡ in_force poly_second m.polys (m.start +ℤ pos q)
in_force-near m q model =
    ⊎_elim
    (λ low. ap (λ k. in_force poly_second m.polys (m.start +ℤ pos k)) low)
    (λ high.
    in_force-late poly_second m.polys (m.start +ℤ pos (min q (2 ^ 40))) (m.start +ℤ pos q) (omega (arith, ints, high.0, high.1))
    (All-weaker (λ e. IsSecond e.second) (λ e. poly_second e ≤ℤ (m.start +ℤ pos (min q (2 ^ 40)))) (λ e its. omega (arith, ints, its, model.start, high.0)) m.polys model.polys))
    (min_cases q (2 ^ 40))

-- so what is in force in that second is the polynomial of the sample
pub poly_at-near : (m : DelayModel) (n : ℕ) (second : ℤ) (found : Option PolyEntry) → IsDelayModel m 0 → (m.polys ≡ [] → ⊥)
    → second ≡ m.start +ℤ pos (min (n / m.rate) (2 ^ 40)) → found ≡ in_force poly_second m.polys second → found ≡ poly_at m n
poly_at-near m n second found model some near is =
    is ∙ ap (in_force poly_second m.polys) near ∙ in_force-near m (n / m.rate) model ∙ sym (poly_at-entries m n some)

-- the polynomial of a second
poly_with : (found : Option PolyEntry) (second : ℤ) → option_map poly_second found ≡ Some second → (e : PolyEntry) × (found ≡ Some e) × (e.second ≡ second)
poly_with None second is = absurd cc
poly_with (Some e) second is = (e, refl, same_Some e.second second is)

-- what is known of the second from which on the polynomial of sample n is in force
pub record IsSecondOf (m : DelayModel) (n : ℕ) (second : ℤ) : Type 0 where
  pub poly : PolyEntry
  pub at : poly_at m n ≡ Some poly
  pub begins : poly.second ≡ second
  pub ranges : IsSecond second
  pub fits : FitsSigned w64 second
  pub begun : (second -ℤ m.start) ≤ℤ pos (n / m.rate)
  pub since : pos n ≡ (second -ℤ m.start) *ℤ pos m.rate +ℤ pos (samples_since m poly n)
  pub low : (pos 0 -ℤ pos (2 ^ 64)) ≤ℤ ((second -ℤ m.start) *ℤ pos m.rate)

pub IsSecondOf-poly_at : (m : DelayModel) (n : ℕ) (second : ℤ) → IsDelayModel m 0 → option_map poly_second (poly_at m n) ≡ Some second → IsSecondOf m n second
IsSecondOf-poly_at m n second model is =
    let found = poly_with (poly_at m n) second is in
    subst (IsSecondOf m n) found.2 (of_poly found.0 found.1)
  where
    of_poly : (e : PolyEntry) → poly_at m n ≡ Some e → IsSecondOf m n e.second
    of_poly e at =
        let begun = IsBegun-poly_at m 0 n e model at in
        let product = product_low (e.second -ℤ m.start) 4102444799 m.rate (omega (arith, ints, begun.second, model.start)) in
        record {
          poly = e;
          at = at;
          begins = refl;
          ranges = begun.second;
          fits = omega (arith, ints, begun.second);
          begun = omega (arith, ints, begun.begun);
          since = omega (arith, ints, samples_since-pos m n e begun);
          low = omega (arith, ints, product, model.rate);
        }

-- a sample of a station with clock entries has a clock where one is in force at that second
pub is_clocked-second : (m : DelayModel) (n : ℕ) (second : ℤ) → IsSecondOf m n second → (m.clocks ≡ [] → ⊥) → is_clocked m n ≡ is_some (in_force clock_second m.clocks second)
is_clocked-second m n second of some =
    is_clocked-entries m n of.poly some of.at ∙ ap is_some (clock_of-entries m of.poly ∙ ap (in_force clock_second m.clocks) of.begins)

pub poly_without : (found : Option PolyEntry) → option_map poly_second found ≡ None → found ≡ None
poly_without None is = refl
poly_without (Some e) is = absurd cc

cases_list : {A : Type 0} (xs : List A) → (xs ≡ []) ⊎ ((x : A) × (rest : List A) × (xs ≡ x ∷ rest))
cases_list [] = inl refl
cases_list (x ∷ rest) = inr (x, rest, refl)

-- where no polynomial is in force none was before
poly_at-none_before : (m : DelayModel) (i n : ℕ) → 0 < m.rate → i ≤ n → poly_at m n ≡ None → poly_at m i ≡ None
poly_at-none_before m i n some_rate order is =
    ⊎_elim
    (λ empty. absurd (let zero = poly_at-none m n empty in cc))
    (λ first.
    let some : m.polys ≡ [] → ⊥ = λ empty. cc in
    let quotients = quotient_rises i n m.rate some_rate order in
    poly_at-entries m i some
    ∙ in_force-none_before poly_second m.polys (second_at m i) (second_at m n) (omega (arith, ints, quotients)) (sym (poly_at-entries m n some) ∙ is))
    (cases_list m.polys)

-- a sample has a clock where no polynomial is in force
is_clocked-nowhere : (m : DelayModel) (n : ℕ) (c : ClockEntry) (rest : List ClockEntry) → m.clocks ≡ c ∷ rest → poly_at m n ≡ None → is_clocked m n ≡ true
unfolding is_clocked
is_clocked-nowhere m n c rest h is =
    let there = rw h at is in
    rw h (rw there refl)

pub is_clocked-late : (m : DelayModel) (n : ℕ) → poly_at m n ≡ None → is_clocked m n ≡ true
is_clocked-late m n is =
    ⊎_elim (λ empty. is_clocked-none m n empty) (λ first. is_clocked-nowhere m n first.0 first.1 first.2 is) (cases_list m.clocks)

-- samples of one polynomial have a clock alike
is_clocked-same : (m : DelayModel) (i n : ℕ) (e : PolyEntry) → poly_at m i ≡ Some e → poly_at m n ≡ Some e → is_clocked m i ≡ is_clocked m n
is_clocked-same m i n e here there =
    ⊎_elim
    (λ empty. is_clocked-none m i empty ∙ sym (is_clocked-none m n empty))
    (λ first.
    let some : m.clocks ≡ [] → ⊥ = λ empty. cc in
    is_clocked-entries m i e some here ∙ sym (is_clocked-entries m n e some there))
    (cases_list m.clocks)

-- a sample of a polynomial has what a later one has
pub is_met-before : (need : Need) (m : DelayModel) (i n : ℕ) (e : PolyEntry) → IsDelayModel m 0 → i ≤ n → e.second ≤ℤ second_at m i → poly_at m n ≡ Some e
    → is_met need m n ≡ true
    → is_met need m i ≡ true
is_met-before Delay m i n e model order begun is met = is_modelled-before m 0 i n e model order begun is met
is_met-before Clock m i n e model order begun is met = is_clocked-same m i n e (poly_at-before m i n e model.some_rate order begun is) is ∙ met

-- and so has each sample before one at which no polynomial is in force
pub is_met-before_all : (need : Need) (m : DelayModel) (i n : ℕ) → IsDelayModel m 0 → i ≤ n → poly_at m n ≡ None → is_met need m n ≡ true → is_met need m i ≡ true
is_met-before_all Delay m i n model order is met = absurd (false≢true (sym (is_modelled-late m n is) ∙ met))
is_met-before_all Clock m i n model order is met = is_clocked-late m i (poly_at-none_before m i n model.some_rate order is)
