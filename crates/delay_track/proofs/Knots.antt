-- The knots about a sample that has a model.
use Rattle.std.proofs.Common.{◌≡◌, ℕ, ◌+◌, ◌*◌, ◌^◌, ◌≤◌, ◌<◌, true, [], ◌∷◌, ◌⊎◌, ⊎_elim, inl, inr, Some, pos, refl, sym, ◌∙◌, arith}
use Rattle.std.proofs.Math.Nat.{div-mul-le_self}
use Rattle.std.proofs.lemmas.Int.{ints}
use Rattle.std.proofs.lemmas.Nat.{mul-le}
use Rattle.std.proofs.lemmas.Bool.{leb-true}
use Rattle.delay_poly.specs.declared.entry.PolyEntry.{PolyEntry}
use Rattle.corr_model.specs.Delay.{DelayModel, IsDelayModel, poly_at, samples_since, knot_before, is_modelled}
use Rattle.delay_track.specs.Model.{IsKnot}
use Rattle.delay_track.proofs.Polynomials.{is_modelled-entries, poly_at-cases, IsBegun-poly_at}
use Rattle.delay_track.proofs.Samples.{samples_since-pos}

-- the knot behind the sample is at most knot 2^24, unless the polynomial is zero
knot_number : (m : DelayModel) (n : ℕ) (e : PolyEntry) → poly_at m n ≡ Some e → is_modelled m n ≡ true → (e.poly ≡ pos 0 ∷ []) ⊎ (knot_before m e n + 1 ≤ 2 ^ 24)
knot_number m n e is modelled =
    ⊎_elim
    (λ zero. inl (rw zero.1 refl))
    (λ one. inr (leb-true (knot_before m e n + 1) (2 ^ 24) (sym (is_modelled-entries m n e one.0 is) ∙ modelled)))
    (poly_at-cases m n e is)

pub IsKnot-at : (m : DelayModel) (samples n : ℕ) (e : PolyEntry) (j : ℕ) → IsDelayModel m samples → n < samples → poly_at m n ≡ Some e → is_modelled m n ≡ true
    → j ≤ knot_before m e n + 1
    → IsKnot m e j
IsKnot-at m samples n e j model inside is modelled near =
    let begun = IsBegun-poly_at m samples n e model is in
    let knots : j * m.knot ≤ (knot_before m e n + 1) * m.knot = mul-le j m.knot (knot_before m e n + 1) m.knot near (omega arith) in
    let whole = div-mul-le_self (samples_since m e n) m.knot in
    let since = samples_since-pos m n e begun in
    record {
      second = begun.second;
      within = omega (arith, ints, knots, whole, since, model.seconds);
      number = ⊎_elim (λ zero. inl zero) (λ low. inr (omega (arith, low, near))) (knot_number m n e is modelled);
    }
