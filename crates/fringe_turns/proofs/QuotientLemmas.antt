-- Quotients rounded down, also of numbers below zero.
use Rattle.std.proofs.Common.{◌≡◌, ℕ, zero, suc, ◌+◌, ◌-◌, ◌*◌, ◌/◌, ◌≤◌, ◌<◌, ℤ, pos, negsuc, neg_ℤ, ◌+ℤ◌, ◌-ℤ◌, ◌*ℤ◌, unsigned_abs, ap, arith}
use Rattle.std.specs.Int.{int_div_euclid, int_rem_euclid}
use Rattle.std.proofs.Math.Nat.{div-div-eq-div-mul, div-le_self, div-eq_of_lt, add-div_left, zero-div}
use Rattle.std.proofs.lemmas.Int.{ints}
use Rattle.std.proofs.lemmas.Nat.{div_below, mul-le}
use Rattle.delay_line.proofs.Floors.{floor_split, floor_unique, rest_below}
use Rattle.delay_track.proofs.Samples.{product_sum}

-- the quotient of a quotient
pub floor_floor : (z : ℤ) (n k : ℕ) → int_div_euclid (int_div_euclid z (pos n)) (pos k) ≡ int_div_euclid z (pos (n * k))
floor_floor (pos a) n k = ap pos (div-div-eq-div-mul a n k)
floor_floor (negsuc a) n k = ap negsuc (div-div-eq-div-mul a n k)

-- one divisor more
pub floor_more : (z : ℤ) (d : ℕ) → 0 < d → int_div_euclid (z +ℤ pos d) (pos d) ≡ int_div_euclid z (pos d) +ℤ pos 1
floor_more z d h =
    let rest = rest_below z d h in
    let q = int_div_euclid z (pos d) in
    floor_unique (z +ℤ pos d) (q +ℤ pos 1) d rest.0 rest.2
    (moved (q *ℤ pos d) ((q +ℤ pos 1) *ℤ pos d) (int_rem_euclid z (pos d)) rest.0 (floor_split z d h) rest.1 (product_sum q (pos 1) d))
  where
    moved : (p p' s : ℤ) (r : ℕ) → z ≡ p +ℤ s → s ≡ pos r → p' ≡ p +ℤ pos 1 *ℤ pos d → z +ℤ pos d ≡ p' +ℤ pos r
    moved p p' s r split is more = omega (arith, ints)

pub floor-within : (z : ℤ) (d : ℕ) → 0 < d → unsigned_abs (int_div_euclid z (pos d)) ≤ unsigned_abs z
floor-within (pos a) d h = div-le_self a d
floor-within (negsuc a) d h = omega (arith, div-le_self a d)

-- what a number is, its quotient times the divisor taken away
pub rest_left : (z w : ℤ) (d : ℕ) → 0 < d → w ≡ int_div_euclid z (pos d)
    → (r : ℕ) × (int_rem_euclid z (pos d) ≡ pos r) × (r < d) × (z -ℤ w *ℤ pos d ≡ pos r)
rest_left z w d h is =
    let rest = rest_below z d h in
    (rest.0, rest.1, rest.2, rw is (left (int_div_euclid z (pos d) *ℤ pos d) (int_rem_euclid z (pos d)) rest.0 (floor_split z d h) rest.1))
  where
    left : (p s : ℤ) (r : ℕ) → z ≡ p +ℤ s → s ≡ pos r → z -ℤ p ≡ pos r
    left p s r split e = omega (arith, ints)

pub rest-below : (z : ℤ) (d r : ℕ) → 0 < d → int_rem_euclid z (pos d) ≡ pos r → r < d
rest-below z d r h e =
    let rest = rest_below z d h in
    omega (arith, ints, rest.1, rest.2, e)

-- a number below zero, rounded down, is its size rounded up
pub floor_neg : (x k : ℕ) → 0 < k → int_div_euclid (neg_ℤ (pos x)) (pos k) ≡ neg_ℤ (pos ((x + (k - 1)) / k))
floor_neg zero k h =
    let none : (zero + (k - 1)) / k ≡ 0 = div-eq_of_lt (omega arith) in
    rw none (ap pos (zero-div k))
floor_neg (suc x) k h =
    let one : suc x + (k - 1) ≡ k + x = omega arith in
    rw (one, add-div_left x h) (omega (arith, ints))

-- a part rounded up is no more than the whole
pub fallen-within : (fall past k : ℕ) → past < k → (fall * past + (k - 1)) / k ≤ fall
fallen-within fall past k h =
    let less : fall * past ≤ fall * k = mul-le fall past fall k (omega arith) (omega arith) in
    let below = div_below (fall * past + (k - 1)) k (fall + 1) (omega arith) (omega arith) in
    omega arith
