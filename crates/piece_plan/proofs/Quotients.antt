-- Quotients rounded up, and multiples below a number.
use Rattle.std.specs.Int.{div_ceil}
use Rattle.std.proofs.Common.{◌≡◌, ℕ, ◌+◌, ◌*◌, ◌/◌, ◌%◌, ◌<◌, ◌≤◌, ⊎_elim, arith}
use Rattle.std.proofs.Math.Nat.{mul-le-mul_left}
use Rattle.std.proofs.lemmas.Bool.{cases_lt}
use Rattle.std.proofs.lemmas.Grind.{div_ceil_times}

pub ceil_covers : (x y : ℕ) → 0 < y → x ≤ div_ceil x y * y
ceil_covers x y h = (div_ceil_times x y h).0

-- part k begins inside where there are more than k parts
pub below_ceil : (x y k : ℕ) → 0 < y → k < div_ceil x y → k * y < x
below_ceil x y k h inside =
    let close = (div_ceil_times x y h).1 in
    let step : y * (k + 1) ≤ y * div_ceil x y = mul-le-mul_left y (omega arith) in
    omega (arith, step, close)

-- and where it begins inside, there are more than k parts
pub ceil_above : (x y k : ℕ) → 0 < y → k * y < x → k < div_ceil x y
ceil_above x y k h inside =
    let covers = ceil_covers x y h in
    ⊎_elim
    (λ more. more)
    (λ less.
    let step : y * div_ceil x y ≤ y * k = mul-le-mul_left y less in
    absurd (omega (arith, step, covers)))
    (cases_lt k (div_ceil x y))

-- no more parts than numbers
pub ceil_le : (x y : ℕ) → 0 < y → div_ceil x y ≤ x
ceil_le x y h =
    ⊎_elim
    (λ more.
    let begun : x * y < x = below_ceil x y x h more in
    let step : x * 1 ≤ x * y = mul-le-mul_left x h in
    absurd (omega (arith, step, begun)))
    (λ less. less)
    (cases_lt x (div_ceil x y))

-- no more parts in a shorter range
pub ceil_mono : (x z y : ℕ) → 0 < y → x ≤ z → div_ceil x y ≤ div_ceil z y
ceil_mono x z y h order =
    ⊎_elim
    (λ more.
    let begun : div_ceil z y * y < x = below_ceil x y (div_ceil z y) h more in
    let covers = ceil_covers z y h in
    absurd (omega (arith, begun, covers)))
    (λ less. less)
    (cases_lt (div_ceil z y) (div_ceil x y))

-- a quotient and a rest are the ones that multiply out
pub quotient_is : (n d q r : ℕ) → n ≡ q * d + r → r < d → (n / d ≡ q) × (n % d ≡ r)
quotient_is n d q r is small =
    let rest : n % d < d = omega arith in
    let whole : d * (n / d) + n % d ≡ n = omega arith in
    let same : n / d ≡ q =
    ⊎_elim
    (λ less.
    let step : d * (n / d + 1) ≤ d * q = mul-le-mul_left d (omega arith) in
    absurd (omega (arith, step, whole, is, rest)))
    (λ ge.
    ⊎_elim
    (λ more.
    let step : d * (q + 1) ≤ d * (n / d) = mul-le-mul_left d (omega arith) in
    absurd (omega (arith, step, whole, is, small)))
    (λ le. omega (arith, le, ge))
    (cases_lt q (n / d)))
    (cases_lt (n / d) q) in
    let place : d * (n / d) ≡ q * d = rw same (omega arith) in
    (same, omega (arith, place, whole, is))
