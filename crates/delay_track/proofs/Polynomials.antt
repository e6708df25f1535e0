-- The polynomial in force at a sample.
use Rattle.std.proofs.Common.{◌≡◌, ℕ, ◌+◌, ◌/◌, ◌^◌, ◌≤◌, ◌<◌, true, false, List, [], ◌∷◌, ◌⊎◌, inl, inr, ⊎_elim, Option, Some, None, ℤ, pos, ◌≤ℤ◌, refl, sym, ap, ◌∙◌, arith}
use Rattle.std.specs.Prelude.{nat_le}
use Rattle.std.proofs.Math.Nat.{div-mul-le_self}
use Rattle.std.proofs.lemmas.Int.{ints}
use Rattle.std.proofs.lemmas.Nat.{le-div}
use Rattle.std.proofs.lemmas.Bool.{false≢true}
use Rattle.std.proofs.lemmas.List.Elements.{All-contains}
use Rattle.num_time.specs.Times.{IsSecond}
use Rattle.entry_list.specs.Latest.{IsLatest, in_force}
use Rattle.entry_list.proofs.InForce.{in_force-IsInForce, in_force-before}
use Rattle.delay_poly.specs.declared.entry.PolyEntry.{PolyEntry}
use Rattle.corr_model.specs.Delay.{DelayModel, IsDelayModel, poly_second, second_at, zero_poly, poly_at, knot_before, is_modelled, delay_at, delay_by}

-- a station has no polynomials, or a first one
pub cases_polys : (polys : List PolyEntry) → (polys ≡ []) ⊎ ((e : PolyEntry) × (rest : List PolyEntry) × (polys ≡ e ∷ rest))
cases_polys [] = inl refl
cases_polys (e ∷ rest) = inr (e, rest, refl)

-- a station without polynomials has the polynomial zero at each sample
pub poly_at-none : (m : DelayModel) (n : ℕ) → m.polys ≡ [] → poly_at m n ≡ Some (zero_poly m)
unfolding poly_at
poly_at-none m n h = rw h refl

-- another one has the latest that has begun
poly_at-some : (m : DelayModel) (n : ℕ) (e : PolyEntry) (polys : List PolyEntry) → m.polys ≡ e ∷ polys
    → poly_at m n ≡ in_force poly_second m.polys (second_at m n)
unfolding poly_at
poly_at-some m n e polys h = rw h refl

pub poly_at-entries : (m : DelayModel) (n : ℕ) → (m.polys ≡ [] → ⊥) → poly_at m n ≡ in_force poly_second m.polys (second_at m n)
poly_at-entries m n some =
    ⊎_elim (λ none. absurd (some none)) (λ first. poly_at-some m n first.0 first.1 first.2) (cases_polys m.polys)

pub is_modelled-none : (m : DelayModel) (n : ℕ) → m.polys ≡ [] → is_modelled m n ≡ true
unfolding is_modelled
is_modelled-none m n h = rw h refl

is_modelled-some : (m : DelayModel) (n : ℕ) (e d : PolyEntry) (polys : List PolyEntry) → m.polys ≡ d ∷ polys → poly_at m n ≡ Some e
    → is_modelled m n ≡ nat_le (knot_before m e n + 1) (2 ^ 24)
unfolding is_modelled
is_modelled-some m n e d polys h is =
    let there = rw h at is in
    rw h (rw there refl)

is_modelled-nowhere : (m : DelayModel) (n : ℕ) (d : PolyEntry) (polys : List PolyEntry) → m.polys ≡ d ∷ polys → poly_at m n ≡ None → is_modelled m n ≡ false
unfolding is_modelled
is_modelled-nowhere m n d polys h is =
    let nowhere = rw h at is in
    rw h (rw nowhere refl)

-- a polynomial in force is one of the station's, or the polynomial zero
pub poly_at-cases : (m : DelayModel) (n : ℕ) (e : PolyEntry) → poly_at m n ≡ Some e
    → ((m.polys ≡ []) × (e ≡ zero_poly m)) ⊎ ((m.polys ≡ [] → ⊥) × (in_force poly_second m.polys (second_at m n) ≡ Some e))
poly_at-cases m n e is =
    ⊎_elim
    (λ none.
    let zero : Some e ≡ Some (zero_poly m) = sym is ∙ poly_at-none m n none in
    let same : e ≡ zero_poly m = cc in
    inl (none, same))
    (λ first.
    let some : m.polys ≡ [] → ⊥ = λ none. cc in
    inr (some, sym (poly_at-entries m n some) ∙ is))
    (cases_polys m.polys)

-- it begins in a second of the calendar that is not after the sample's
pub record IsBegun (m : DelayModel) (n : ℕ) (e : PolyEntry) : Type 0 where
  pub second : IsSecond e.second
  pub begun : e.second ≤ℤ second_at m n

pub IsBegun-poly_at : (m : DelayModel) (samples n : ℕ) (e : PolyEntry) → IsDelayModel m samples → poly_at m n ≡ Some e → IsBegun m n e
IsBegun-poly_at m samples n e h is =
    ⊎_elim
    (λ zero. rw zero.1 record { second = h.start; begun = omega (arith, ints) })
    (λ one.
    let latest : IsLatest poly_second m.polys (second_at m n) e = rw one.1 at (in_force-IsInForce poly_second m.polys (second_at m n)) in
    record {
      second = All-contains (λ d. IsSecond d.second) m.polys e h.polys latest.among;
      begun = latest.not_after;
    })
    (poly_at-cases m n e is)

pub quotient_rises : (i n k : ℕ) → 0 < k → i ≤ n → i / k ≤ n / k
quotient_rises i n k some order = le-div (i / k) n k some (omega (arith, div-mul-le_self i k))

-- it is in force from its second on
pub poly_at-before : (m : DelayModel) (i n : ℕ) (e : PolyEntry) → 0 < m.rate → i ≤ n → e.second ≤ℤ second_at m i → poly_at m n ≡ Some e → poly_at m i ≡ Some e
poly_at-before m i n e some_rate order begun is =
    ⊎_elim
    (λ zero. poly_at-none m i zero.0 ∙ ap Some (sym zero.1))
    (λ one.
    let quotients = quotient_rises i n m.rate some_rate order in
    poly_at-entries m i one.0 ∙ in_force-before poly_second m.polys (second_at m i) (second_at m n) e (omega (arith, ints)) begun one.1)
    (poly_at-cases m n e is)

pub delay_at-none : (m : DelayModel) (n : ℕ) → poly_at m n ≡ None → delay_at m n ≡ pos 0
unfolding delay_at
delay_at-none m n is = rw is refl

pub delay_at-some : (m : DelayModel) (n : ℕ) (e : PolyEntry) → poly_at m n ≡ Some e → delay_at m n ≡ delay_by m e n
unfolding delay_at
delay_at-some m n e is = rw is refl

-- a sample of a station with polynomials has a model where the knot before it is below 2^24
pub is_modelled-entries : (m : DelayModel) (n : ℕ) (e : PolyEntry) → (m.polys ≡ [] → ⊥) → poly_at m n ≡ Some e → is_modelled m n ≡ nat_le (knot_before m e n + 1) (2 ^ 24)
is_modelled-entries m n e some is =
    ⊎_elim (λ none. absurd (some none)) (λ first. is_modelled-some m n e first.0 first.1 first.2 is) (cases_polys m.polys)

-- and none where no polynomial is in force
pub is_modelled-late : (m : DelayModel) (n : ℕ) → poly_at m n ≡ None → is_modelled m n ≡ false
is_modelled-late m n is =
    ⊎_elim
    (λ none. let zero = poly_at-none m n none in cc)
    (λ first. is_modelled-nowhere m n first.0 first.1 first.2 is)
    (cases_polys m.polys)

-- a sample that has a model has a polynomial
pub modelled_poly : (m : DelayModel) (n : ℕ) → is_modelled m n ≡ true → (e : PolyEntry) × (poly_at m n ≡ Some e)
modelled_poly m n modelled = there (poly_at m n) refl
  where
    there : (found : Option PolyEntry) → poly_at m n ≡ found → (e : PolyEntry) × (poly_at m n ≡ Some e)
    there None is = absurd (false≢true (sym (is_modelled-late m n is) ∙ modelled))
    there (Some e) is = (e, is)

no_later : (second : ℤ) → second ≤ℤ second
no_later second = omega (arith, ints)

-- the polynomial of a later sample begins no earlier
pub poly_at-later : (m : DelayModel) (i n : ℕ) (e d : PolyEntry) → 0 < m.rate → i ≤ n → poly_at m i ≡ Some e → poly_at m n ≡ Some d → e.second ≤ℤ d.second
poly_at-later m i n e d some_rate order first later =
    ⊎_elim
    (λ zero.
    let same : Some d ≡ Some (zero_poly m) = sym later ∙ poly_at-none m n zero.0 in
    let both : d ≡ e = cc in
    rw both (no_later e.second))
    (λ one.
    let here : IsLatest poly_second m.polys (second_at m i) e = rw one.1 at (in_force-IsInForce poly_second m.polys (second_at m i)) in
    let found : in_force poly_second m.polys (second_at m n) ≡ Some d = sym (poly_at-entries m n one.0) ∙ later in
    let there : IsLatest poly_second m.polys (second_at m n) d = rw found at (in_force-IsInForce poly_second m.polys (second_at m n)) in
    let quotients = quotient_rises i n m.rate some_rate order in
    All-contains (λ x. poly_second x ≤ℤ second_at m n → poly_second x ≤ℤ poly_second d) m.polys e there.latest here.among (omega (arith, ints, here.not_after, quotients)))
    (poly_at-cases m i e first)
