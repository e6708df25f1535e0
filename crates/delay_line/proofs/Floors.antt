-- Quotients rounded down, also of numbers below zero, and what they leave.
use Rattle.std.proofs.Common.{◌≡◌, ℕ, zero, suc, ◌+◌, ◌-◌, ◌*◌, ◌/◌, ◌%◌, ◌≤◌, ◌<◌, ℤ, pos, negsuc, neg_ℤ, ◌+ℤ◌, ◌*ℤ◌, ◌≤ℤ◌, ◌<ℤ◌, refl, ap, arith}
use Rattle.std.specs.Int.{int_div_euclid, int_rem_euclid}
use Rattle.std.proofs.Math.Nat.{suc-mul}
use Rattle.std.proofs.lemmas.Int.{ints}
use Rattle.std.proofs.lemmas.Nat.{div_below, le-div, div-mul-add}

pub floor_neg-not_below : (x k g : ℕ) → 0 < k → x ≤ g * k → neg_ℤ (pos g) ≤ℤ int_div_euclid (neg_ℤ (pos x)) (pos k)
floor_neg-not_below zero k g h e = omega (arith, ints)
floor_neg-not_below (suc x) k g h e =
    let low = div_below x k g h (omega arith) in
    omega (arith, ints, low)

pub floor_neg-below : (x k g : ℕ) → 0 < k → g * k < x → int_div_euclid (neg_ℤ (pos x)) (pos k) <ℤ neg_ℤ (pos g)
floor_neg-below zero k g h e = absurd (omega arith)
floor_neg-below (suc x) k g h e =
    let high = le-div g x k h (omega arith) in
    omega (arith, ints, high)

pub floor_neg-falls : (x y k : ℕ) → 0 < k → x ≤ y → int_div_euclid (neg_ℤ (pos y)) (pos k) ≤ℤ int_div_euclid (neg_ℤ (pos x)) (pos k)
floor_neg-falls zero zero k h e = omega (arith, ints)
floor_neg-falls zero (suc y) k h e = omega (arith, ints)
floor_neg-falls (suc x) zero k h e = absurd (omega arith)
floor_neg-falls (suc x) (suc y) k h e =
    let up = quotient_rises x y k h (omega arith) in
    omega (arith, ints, up)
  where
    quotient_rises : (x y k : ℕ) → 0 < k → x ≤ y → x / k ≤ y / k
    quotient_rises x y k h e = le-div (x / k) y k h (omega arith)

-- a number is its quotient and its rest
pub floor_split : (z : ℤ) (d : ℕ) → 0 < d → z ≡ int_div_euclid z (pos d) *ℤ pos d +ℤ int_rem_euclid z (pos d)
floor_split (pos a) d h = omega (arith, ints)
floor_split (negsuc a) d h = omega (arith, ints)

-- and no other quotient leaves a rest below the divisor
pub floor_unique : (w q : ℤ) (d r : ℕ) → r < d → w ≡ q *ℤ pos d +ℤ pos r → int_div_euclid w (pos d) ≡ q
floor_unique w (pos q) d r h e =
    let is : w ≡ pos (q * d + r) = e in
    rw is (ap pos (div-mul-add q d r h))
floor_unique w (negsuc q) d r h e =
    let is : w ≡ negsuc (q * d + (d - 1 - r)) = omega (arith, ints, suc-mul q d) in
    rw is (ap negsuc (div-mul-add q d (d - 1 - r) (omega arith)))

pub rest_below : (z : ℤ) (d : ℕ) → 0 < d → (r : ℕ) × (int_rem_euclid z (pos d) ≡ pos r) × (r < d)
rest_below (pos a) d h = (a % d, refl, omega arith)
rest_below (negsuc a) d h = (d - 1 - a % d, refl, omega arith)
