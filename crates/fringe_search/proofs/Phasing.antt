-- Phases, step by step.
use Rattle.std.proofs.Common.{◌≡◌, ℕ, ◌+◌, ◌-◌, ◌*◌, ◌/◌, ◌%◌, ◌<◌, ◌≤◌, sym, ap, ◌∙◌, arith}
use Rattle.std.proofs.Math.Nat.{add-mul, mul_assoc}
use Rattle.std.proofs.lemmas.Nat.{div-mul-add, mod-mul-add, div-add-mod', mod_below, mul-le}

-- whole turns do not count
whole_less : (s p d : ℕ) → p < d → (s * d + p) % (16 * d) ≡ (s % 16) * d + p
whole_less s p d h =
    let q = s / 16 in
    let k = s % 16 in
    let low : k < 16 = mod_below s 16 (omega arith) in
    let most : k * d ≤ 15 * d = mul-le k d 15 d (omega arith) (omega arith) in
    let fits : k * d + p < 16 * d = omega (arith, most, h) in
    let split : s * d ≡ q * (16 * d) + k * d =
    ap (λ x. x * d) (sym (div-add-mod' s 16)) ∙ add-mul (q * 16) k d ∙ ap (λ x. x + k * d) (mul_assoc q 16 d) in
    let whole : s * d + p ≡ q * (16 * d) + (k * d + p) = omega (arith, split) in
    ap (λ x. x % (16 * d)) whole ∙ mod-mul-add q (16 * d) (k * d + p) fits

-- a phase after a step
pub stepped : (d s₁ p₁ s₂ p₂ k p s : ℕ) → k ≡ s % 16 → p < d → s * d + p ≡ (s₁ + s₂) * d + (p₁ + p₂)
    → k * d + p ≡ ((s₁ * d + p₁) + (s₂ * d + p₂)) % (16 * d)
stepped d s₁ p₁ s₂ p₂ k p s is h e =
    let both : (s₁ * d + p₁) + (s₂ * d + p₂) ≡ s * d + p = omega (arith, e, add-mul s₁ s₂ d) in
    ap (λ x. x * d + p) is ∙ sym (whole_less s p d h) ∙ sym (ap (λ x. x % (16 * d)) both)

pub carried_one : (s p d : ℕ) → d ≤ p → (s + 1) * d + (p - d) ≡ s * d + p
carried_one s p d h = omega (arith, add-mul s 1 d)

-- a sector is known by the rest
pub sector_of_rest : (k p d rest : ℕ) → p < d → rest ≡ k * d + p → rest / d ≡ k
sector_of_rest k p d rest h is = ap (λ x. x / d) is ∙ div-mul-add k d p h
