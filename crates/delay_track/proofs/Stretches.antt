-- The samples through which one polynomial is in force.
use Rattle.std.proofs.Common.{◌≡◌, ℕ, ◌+◌, ◌^◌, ◌≤◌, true, ⊎_elim, Some, ◌≤ℤ◌, sym, ◌∙◌, arith}
use Rattle.std.proofs.lemmas.Int.{ints}
use Rattle.std.proofs.lemmas.Bool.{leb-true, le-leb}
use Rattle.delay_poly.specs.declared.entry.PolyEntry.{PolyEntry}
use Rattle.corr_model.specs.Delay.{DelayModel, IsDelayModel, second_at, poly_at, samples_since, knot_before, is_modelled}
use Rattle.delay_track.proofs.Polynomials.{is_modelled-none, is_modelled-entries, poly_at-cases, poly_at-before, quotient_rises, IsBegun-poly_at}
use Rattle.delay_track.proofs.Samples.{samples_since-pos}

-- the knot's number only grows from a sample to a later one
pub knot_before-rises : (m : DelayModel) (samples i n : ℕ) (e : PolyEntry) → IsDelayModel m samples → i ≤ n → poly_at m i ≡ Some e → poly_at m n ≡ Some e
    → knot_before m e i ≤ knot_before m e n
knot_before-rises m samples i n e model order here there =
    let first = samples_since-pos m i e (IsBegun-poly_at m samples i e model here) in
    let last = samples_since-pos m n e (IsBegun-poly_at m samples n e model there) in
    quotient_rises (samples_since m e i) (samples_since m e n) m.knot (omega (arith, model.some_knot)) (omega (arith, ints, first, last))

-- so a sample of the polynomial has a model where a later one has
pub is_modelled-before : (m : DelayModel) (samples i n : ℕ) (e : PolyEntry) → IsDelayModel m samples → i ≤ n → e.second ≤ℤ second_at m i → poly_at m n ≡ Some e
    → is_modelled m n ≡ true
    → is_modelled m i ≡ true
is_modelled-before m samples i n e model order begun is modelled =
    ⊎_elim
    (λ zero. is_modelled-none m i zero.0)
    (λ one.
    let here = poly_at-before m i n e model.some_rate order begun is in
    let low = leb-true (knot_before m e n + 1) (2 ^ 24) (sym (is_modelled-entries m n e one.0 is) ∙ modelled) in
    let rises = knot_before-rises m samples i n e model order here is in
    is_modelled-entries m i e one.0 here ∙ le-leb (knot_before m e i + 1) (2 ^ 24) (omega (arith, low, rises)))
    (poly_at-cases m n e is)
