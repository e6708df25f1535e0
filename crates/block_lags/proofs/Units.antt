-- Numbers of -1, 0 and 1, what they make, and that 64 bits hold it.
use Rattle.std.proofs.Common.{◌≡◌, ℕ, ◌+◌, ◌≤◌, ℤ, ◌+ℤ◌, ◌-ℤ◌, ◌*ℤ◌, w64, to_z, of_z, FitsSigned, unsigned_abs, sym, subst, arith, mul-le-mul}
use Rattle.std.proofs.lemmas.Int.{ints, to_z-of_z, fits_signed_from_abs, unsigned_abs-mul}
use Rattle.byte_lags.specs.Streams.{IsWeight}
use Rattle.byte_lags.proofs.Bounds.{within_abs, abs-within, abs-plus}

pub passed : (n : ℕ) (x : ℤ) → n ≤ 4 → unsigned_abs x ≤ n → to_z w64 (of_z w64 x) ≡ x
passed n x le h = to_z-of_z w64 x (fits_signed_from_abs w64 x (omega (arith, le, h)))

abs-minus : (x y : ℤ) (m n : ℕ) → unsigned_abs x ≤ m → unsigned_abs y ≤ n → unsigned_abs (x -ℤ y) ≤ m + n
abs-minus x y m n h k =
    let a = within_abs x m h in
    let b = within_abs y n k in
    abs-within (x -ℤ y) (m + n) (omega (arith, ints, a.0, b.1)) (omega (arith, ints, a.1, b.0))

unit-product : (x y : ℤ) → unsigned_abs x ≤ 1 → unsigned_abs y ≤ 1 → unsigned_abs (x *ℤ y) ≤ 1
unit-product x y h k = omega (arith, unsigned_abs-mul x y, mul-le-mul h k)

product_is : (x y : ℤ) → unsigned_abs x ≤ 1 → unsigned_abs y ≤ 1 → to_z w64 (of_z w64 (to_z w64 (of_z w64 x) *ℤ to_z w64 (of_z w64 y))) ≡ x *ℤ y
product_is x y h k = rw (passed 1 x (omega arith) h, passed 1 y (omega arith) k) (passed 1 (x *ℤ y) (omega arith) (unit-product x y h k))

abbrev computed : ℤ → ℤ → ℤ
computed x y = to_z w64 (of_z w64 (to_z w64 (of_z w64 x) *ℤ to_z w64 (of_z w64 y)))

module _ (a b c d : ℤ) (h : unsigned_abs a ≤ 1) (i : unsigned_abs b ≤ 1) (j : unsigned_abs c ≤ 1) (k : unsigned_abs d ≤ 1) where
  sum-small : unsigned_abs (a *ℤ b +ℤ c *ℤ d) ≤ 2
  sum-small = abs-plus (a *ℤ b) (c *ℤ d) 1 1 (unit-product a b h i) (unit-product c d j k)

  difference-small : unsigned_abs (a *ℤ b -ℤ c *ℤ d) ≤ 2
  difference-small = abs-minus (a *ℤ b) (c *ℤ d) 1 1 (unit-product a b h i) (unit-product c d j k)

  pub sum-fits : FitsSigned w64 (computed a b +ℤ computed c d)
  sum-fits = rw (product_is a b h i, product_is c d j k) (fits_signed_from_abs w64 (a *ℤ b +ℤ c *ℤ d) (omega (arith, sum-small)))

  pub difference-fits : FitsSigned w64 (computed a b -ℤ computed c d)
  difference-fits = rw (product_is a b h i, product_is c d j k) (fits_signed_from_abs w64 (a *ℤ b -ℤ c *ℤ d) (omega (arith, difference-small)))

  pub sum_is : to_z w64 (of_z w64 (computed a b +ℤ computed c d)) ≡ a *ℤ b +ℤ c *ℤ d
  sum_is = rw (product_is a b h i, product_is c d j k) (passed 2 (a *ℤ b +ℤ c *ℤ d) (omega arith) sum-small)

  pub difference_is : to_z w64 (of_z w64 (computed a b -ℤ computed c d)) ≡ a *ℤ b -ℤ c *ℤ d
  difference_is = rw (product_is a b h i, product_is c d j k) (passed 2 (a *ℤ b -ℤ c *ℤ d) (omega arith) difference-small)

  pub sum-weight : IsWeight (to_z w64 (of_z w64 (computed a b +ℤ computed c d)))
  sum-weight = subst (λ (z : ℤ). unsigned_abs z ≤ 2) (sym sum_is) sum-small

  pub difference-weight : IsWeight (to_z w64 (of_z w64 (computed a b -ℤ computed c d)))
  difference-weight = subst (λ (z : ℤ). unsigned_abs z ≤ 2) (sym difference_is) difference-small
