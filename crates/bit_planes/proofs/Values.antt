-- The values of planes.
use Rattle.std.specs.Prelude.{if◌then◌else◌}
use Rattle.std.proofs.Common.{◌≡◌, ℕ, ◌≤◌, Bool, true, false, ◌&&◌, int_le, int_lt, unsigned_abs, ℤ, pos, ◌+ℤ◌, ◌-ℤ◌, ◌≤ℤ◌, ◌<ℤ◌, length, None, inl, inr, refl, sym, ap, ap₂, ◌∙◌, arith}
use Rattle.std.proofs.lemmas.Bool.{cases_lt}
use Rattle.std.proofs.lemmas.Int.{ints}
use Rattle.std.proofs.lemmas.List.{get_or_past}
use Rattle.bit_planes.specs.Planes.{PlanesFields, ArePlanes, held_value, plane_value, size_of}

pub plane_value-inside : (p : PlanesFields) (n : ℤ) (k : ℕ) → p.from +ℤ pos k ≡ n → n <ℤ p.to → plane_value p n ≡ held_value p k
plane_value-inside p n k e h =
    let low : int_le p.from n ≡ true = grind (arith, ints) in
    let high : int_lt n p.to ≡ true = grind (arith, ints) in
    let place : unsigned_abs (n -ℤ p.from) ≡ k = omega (arith, ints) in
    ap₂ (λ s t. if s && t then held_value p (unsigned_abs (n -ℤ p.from)) else None) low high ∙ ap (held_value p) place

plane_value-past : (p : PlanesFields) (n : ℤ) → p.to ≤ℤ n → plane_value p n ≡ None
plane_value-past p n h =
    let high : int_lt n p.to ≡ false = grind (arith, ints) in
    ap (λ t. if int_le p.from n && t then held_value p (unsigned_abs (n -ℤ p.from)) else None) high ∙ neither (int_le p.from n)
  where
    neither : (s : Bool) → (if s && false then held_value p (unsigned_abs (n -ℤ p.from)) else None) ≡ None
    neither true = refl
    neither false = refl

held-past : (p : PlanesFields) → (k : ℕ) → length p.values ≤ k → held_value p k ≡ None
held-past p k le = get_or_past p.values k None le

-- from the first sample on
pub plane_value-held : (p : PlanesFields) → ArePlanes p → (n : ℤ) (k : ℕ) → p.from +ℤ pos k ≡ n → plane_value p n ≡ held_value p k
plane_value-held p are n k e =
    let order = are.order in
    let whole : p.from +ℤ pos (size_of p) ≡ p.to = omega (arith, ints, order) in
    elim (cases_lt k (size_of p)) [
      | inl q ↦ plane_value-inside p n k e (omega (arith, ints))
      | inr q ↦ plane_value-past p n (omega (arith, ints)) ∙ sym (held-past p k (omega (arith, are.held)))
    ]
