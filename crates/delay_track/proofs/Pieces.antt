-- The samples from one on through which its polynomial stays in force, and the line between the knots about it.
use Rattle.std.proofs.Common.{◌≡◌, ℕ, ◌+◌, ◌-◌, ◌*◌, ◌/◌, ◌%◌, ◌≤◌, ◌<◌, ◌⊎◌, ⊎_elim, Option, Some, None, ℤ, ◌-ℤ◌, ◌≤ℤ◌, ◌<ℤ◌, unsigned_abs, refl, sym, ap, ◌∙◌, arith}
use Rattle.std.specs.List.{All}
use Rattle.std.proofs.lemmas.Int.{ints}
use Rattle.std.proofs.lemmas.Nat.{div_below, le-div}
use Rattle.std.proofs.lemmas.Bool.{cases_order}
use Rattle.std.proofs.lemmas.List.Elements.{All-contains, All-weaker}
use Rattle.entry_list.specs.Latest.{IsLatest, in_force}
use Rattle.entry_list.proofs.InForce.{in_force-IsInForce, in_force-before}
use Rattle.delay_poly.specs.declared.entry.PolyEntry.{PolyEntry}
use Rattle.corr_model.specs.Delay.{DelayModel, IsDelayModel, poly_second, second_at, poly_at, samples_since, knot_before, past_knot, knot_delay, between, delay_at, delay_by}
use Rattle.delay_track.proofs.Polynomials.{poly_at-none, poly_at-entries, poly_at-cases, quotient_rises, IsBegun-poly_at, delay_at-some}
use Rattle.delay_track.proofs.Samples.{samples_since-pos}

cases_second : (a b : ℤ) → (a ≤ℤ b) ⊎ (b <ℤ a)
cases_second a b = grind (arith, ints)

-- an entry in force stays so as long as none begins
in_force-stays : (m : DelayModel) (n i : ℕ) (e : PolyEntry) → second_at m n ≤ℤ second_at m i
    → All (λ x. second_at m n <ℤ poly_second x → second_at m i <ℤ poly_second x) m.polys
    → in_force poly_second m.polys (second_at m n) ≡ Some e
    → in_force poly_second m.polys (second_at m i) ≡ Some e
in_force-stays m n i e order no_more is = there (in_force poly_second m.polys (second_at m i)) refl
  where
    here : IsLatest poly_second m.polys (second_at m n) e
    here = rw is at (in_force-IsInForce poly_second m.polys (second_at m n))

    there : (found : Option PolyEntry) → in_force poly_second m.polys (second_at m i) ≡ found → in_force poly_second m.polys (second_at m i) ≡ Some e
    there None none =
        let after : All (λ x. second_at m i <ℤ poly_second x) m.polys = rw none at (in_force-IsInForce poly_second m.polys (second_at m i)) in
        let later = All-contains (λ x. second_at m i <ℤ poly_second x) m.polys e after here.among in
        absurd (omega (arith, ints, later, here.not_after, order))
    there (Some d) some =
        let latest : IsLatest poly_second m.polys (second_at m i) d = rw some at (in_force-IsInForce poly_second m.polys (second_at m i)) in
        let more = All-contains (λ x. second_at m n <ℤ poly_second x → second_at m i <ℤ poly_second x) m.polys d no_more latest.among in
        let begun : poly_second d ≤ℤ second_at m n =
        ⊎_elim (λ low. low) (λ high. absurd (omega (arith, ints, more high, latest.not_after))) (cases_second (poly_second d) (second_at m n)) in
        let same = in_force-before poly_second m.polys (second_at m n) (second_at m i) d order begun some in
        some ∙ sym same ∙ is

-- so does a station's polynomial
pub poly_at-stays : (m : DelayModel) (n i : ℕ) (e : PolyEntry) → 0 < m.rate → n ≤ i
    → All (λ x. second_at m n <ℤ poly_second x → second_at m i <ℤ poly_second x) m.polys
    → poly_at m n ≡ Some e
    → poly_at m i ≡ Some e
poly_at-stays m n i e some_rate order no_more is =
    ⊎_elim
    (λ zero. poly_at-none m i zero.0 ∙ ap Some (sym zero.1))
    (λ one.
    let quotients = quotient_rises n i m.rate some_rate order in
    poly_at-entries m i one.0 ∙ in_force-stays m n i e (omega (arith, ints, quotients)) no_more one.1)
    (poly_at-cases m n e is)

-- where all polynomials have begun, and where the next one begins at a second
pub poly_at-last : (m : DelayModel) (n i : ℕ) (e : PolyEntry) → 0 < m.rate → n ≤ i → All (λ x. poly_second x ≤ℤ second_at m n) m.polys → poly_at m n ≡ Some e
    → poly_at m i ≡ Some e
poly_at-last m n i e some_rate order begun is =
    poly_at-stays m n i e some_rate order
    (All-weaker (λ x. poly_second x ≤ℤ second_at m n) (λ x. second_at m n <ℤ poly_second x → second_at m i <ℤ poly_second x) (λ x low high. absurd (omega (arith, ints))) m.polys begun)
    is

second_before : (m : DelayModel) (i : ℕ) (next : ℤ) → 0 < m.rate → m.start ≤ℤ next → i < unsigned_abs (next -ℤ m.start) * m.rate → second_at m i <ℤ next
second_before m i next some_rate begun inside =
    let quotient = div_below i m.rate (unsigned_abs (next -ℤ m.start)) some_rate inside in
    omega (arith, ints, quotient, begun)

pub poly_at-up_to : (m : DelayModel) (n i : ℕ) (e : PolyEntry) (next : ℤ) → 0 < m.rate → n ≤ i → m.start ≤ℤ next → i < unsigned_abs (next -ℤ m.start) * m.rate
    → All (λ x. second_at m n <ℤ poly_second x → next ≤ℤ poly_second x) m.polys
    → poly_at m n ≡ Some e
    → poly_at m i ≡ Some e
poly_at-up_to m n i e next some_rate order begun inside first is =
    let before = second_before m i next some_rate begun inside in
    poly_at-stays m n i e some_rate order
    (All-weaker (λ x. second_at m n <ℤ poly_second x → next ≤ℤ poly_second x) (λ x. second_at m n <ℤ poly_second x → second_at m i <ℤ poly_second x) (λ x f after. let low = f after in omega (arith, ints, low, before)) m.polys first)
    is

-- a sample lies before the second that comes after its own
pub before_second : (m : DelayModel) (n : ℕ) (next : ℤ) → 0 < m.rate → second_at m n <ℤ next → n < unsigned_abs (next -ℤ m.start) * m.rate
before_second m n next some_rate after =
    ⊎_elim (λ same. absurd (low (omega (arith, same)))) (λ apart. ⊎_elim (λ before. before) (λ behind. absurd (low (omega (arith, behind)))) apart)
    (cases_order n (unsigned_abs (next -ℤ m.start) * m.rate))
  where
    low : unsigned_abs (next -ℤ m.start) * m.rate ≤ n → ⊥
    low h = let quotient = le-div (unsigned_abs (next -ℤ m.start)) n m.rate some_rate h in omega (arith, ints, quotient, after)

-- the samples from a polynomial's second are as many more as the sample is later
samples_since-later : (m : DelayModel) (samples n i : ℕ) (e : PolyEntry) → IsDelayModel m samples → n ≤ i → poly_at m n ≡ Some e → poly_at m i ≡ Some e
    → samples_since m e i ≡ samples_since m e n + (i - n)
samples_since-later m samples n i e model order here there =
    let first = samples_since-pos m n e (IsBegun-poly_at m samples n e model here) in
    let last = samples_since-pos m i e (IsBegun-poly_at m samples i e model there) in
    omega (arith, ints, first, last)

-- a sample less than a knot behind the knot before another one has that knot before it too
quotient_stays : (since more knot : ℕ) → since % knot + more < knot → ((since + more) / knot ≡ since / knot) × ((since + more) % knot ≡ since % knot + more)
quotient_stays since more knot h = grind arith

pub delay_at-piece : (m : DelayModel) (samples n i : ℕ) (e : PolyEntry) → IsDelayModel m samples → n ≤ i → past_knot m e n + (i - n) < m.knot
    → poly_at m n ≡ Some e → poly_at m i ≡ Some e
    → delay_at m i ≡ between (knot_delay m e (knot_before m e n)) (knot_delay m e (knot_before m e n + 1)) (past_knot m e n + (i - n)) m.knot
unfolding delay_by
delay_at-piece m samples n i e model order near here there =
    let later = samples_since-later m samples n i e model order here there in
    let stays = quotient_stays (samples_since m e n) (i - n) m.knot near in
    let knots : knot_before m e i ≡ knot_before m e n = rw later stays.0 in
    let past : past_knot m e i ≡ past_knot m e n + (i - n) = rw later stays.1 in
    delay_at-some m i e there ∙ rw (knots, past) refl
