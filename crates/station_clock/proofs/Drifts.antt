-- The size of a drift.
use Rattle.std.proofs.Common.{◌≡◌, ℕ, ◌+◌, ◌*◌, ◌^◌, ◌≤◌, ◌<◌, ℤ, pos, negsuc, ◌*ℤ◌, ◌≤ℤ◌, ◌<ℤ◌, unsigned_abs, arith}
use Rattle.std.specs.Int.{int_div_euclid}
use Rattle.std.proofs.lemmas.Int.{ints, unsigned_abs-mul}
use Rattle.std.proofs.lemmas.Nat.{mul-le, div_below}

quotient_within : (y : ℤ) (n rate : ℕ) → 0 < rate → unsigned_abs y ≤ n * rate → unsigned_abs (int_div_euclid y (pos rate)) ≤ n
quotient_within (pos a) n rate some h =
    omega (arith, div_below a rate (n + 1) some (omega (arith, h)))
quotient_within (negsuc a) n rate some h = omega (arith, div_below a rate n some (omega (arith, h)))

-- a drift of less than 2^25 a second adds 2^57 at most in 2^32 seconds
pub drift_small : (drift c1 u : ℤ) (rate : ℕ) → drift ≡ int_div_euclid (c1 *ℤ u) (pos rate) → unsigned_abs c1 < 2 ^ 25 → pos 0 ≤ℤ u
    → u <ℤ pos (2 ^ 32 * rate)
    → unsigned_abs drift ≤ 2 ^ 57
drift_small drift c1 u rate is small begun within =
    let size : unsigned_abs u < 2 ^ 32 * rate = omega (arith, ints) in
    let product = mul-le (unsigned_abs c1) (unsigned_abs u) (2 ^ 25) (2 ^ 32 * rate) (omega (arith, small)) (omega (arith, size)) in
    rw is (quotient_within (c1 *ℤ u) (2 ^ 57) rate (omega (arith, size)) (omega (arith, unsigned_abs-mul c1 u, product)))
