-- The size of a product rounded down.
use Rattle.std.proofs.Common.{ℕ, ◌*◌, ◌≤◌, ℤ, pos, negsuc, ◌*ℤ◌, unsigned_abs, arith}
use Rattle.std.specs.Int.{int_div_euclid}
use Rattle.std.proofs.lemmas.Int.{unsigned_abs-mul}
use Rattle.std.proofs.lemmas.Nat.{mul-le}

quotient_small : (y : ℤ) (n : ℕ) → unsigned_abs y ≤ n * 16777216 → unsigned_abs (int_div_euclid y (pos 16777216)) ≤ n
quotient_small (pos a) n h = omega arith
quotient_small (negsuc a) n h = omega arith

-- a part of a number, rounded down, is no larger
pub floor_small : (z : ℤ) (j : ℕ) → j ≤ 16777216 → unsigned_abs (int_div_euclid (z *ℤ pos j) (pos 16777216)) ≤ unsigned_abs z
floor_small z j h =
    let n : ℕ = unsigned_abs z in
    let same : n ≤ n = omega arith in
    quotient_small (z *ℤ pos j) n (omega (arith, unsigned_abs-mul z (pos j), mul-le n j n 16777216 same h))
