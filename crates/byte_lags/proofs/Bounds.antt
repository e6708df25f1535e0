-- How large signed numbers are.
use Rattle.std.proofs.Common.{◌≡◌, ℕ, ◌+◌, ◌≤◌, ◌^◌, ℤ, pos, negsuc, neg_ℤ, ◌+ℤ◌, ◌*ℤ◌, ◌≤ℤ◌, w64, to_z, of_z, FitsSigned, unsigned_abs, arith}
use Rattle.std.proofs.lemmas.Int.{ints, to_z-of_z, fits_signed_from_abs, unsigned_abs-mul}
use Rattle.std.proofs.Common.{mul-le-mul}

pub within_abs : (x : ℤ) (n : ℕ) → unsigned_abs x ≤ n → (neg_ℤ (pos n) ≤ℤ x) × (x ≤ℤ pos n)
within_abs (pos m) n h = (omega (arith, ints), omega (arith, ints))
within_abs (negsuc m) n h = (omega (arith, ints), omega (arith, ints))

pub abs-within : (x : ℤ) (n : ℕ) → neg_ℤ (pos n) ≤ℤ x → x ≤ℤ pos n → unsigned_abs x ≤ n
abs-within (pos m) n h k = omega (arith, ints)
abs-within (negsuc m) n h k = omega (arith, ints)

pub abs-plus : (x y : ℤ) (m n : ℕ) → unsigned_abs x ≤ m → unsigned_abs y ≤ n → unsigned_abs (x +ℤ y) ≤ m + n
abs-plus x y m n h k =
    let a = within_abs x m h in
    let b = within_abs y n k in
    abs-within (x +ℤ y) (m + n) (omega (arith, ints, a.0, b.0)) (omega (arith, ints, a.1, b.1))

pub abs-times : (w v : ℤ) → unsigned_abs w ≤ 2 → unsigned_abs v ≤ 2 ^ 33 → unsigned_abs (w *ℤ v) ≤ 2 ^ 34
abs-times w v h k = omega (arith, unsigned_abs-mul w v, mul-le-mul h k)

-- what is computed in 64 bits
pub grown_is : (old w v : ℤ) → unsigned_abs old ≤ 2 ^ 62 + 2 ^ 61 → unsigned_abs w ≤ 2 → unsigned_abs v ≤ 2 ^ 33
    → to_z w64 (of_z w64 (to_z w64 (of_z w64 old) +ℤ to_z w64 (of_z w64 (to_z w64 (of_z w64 w) *ℤ to_z w64 (of_z w64 v))))) ≡ old +ℤ w *ℤ v
grown_is old w v h k l =
    let old_fits : FitsSigned w64 old = fits_signed_from_abs w64 old (omega (arith, h)) in
    let w_fits : FitsSigned w64 w = fits_signed_from_abs w64 w (omega (arith, k)) in
    let v_fits : FitsSigned w64 v = fits_signed_from_abs w64 v (omega (arith, l)) in
    let product : FitsSigned w64 (w *ℤ v) = fits_signed_from_abs w64 (w *ℤ v) (omega (arith, abs-times w v k l)) in
    let sum : FitsSigned w64 (old +ℤ w *ℤ v) =
    fits_signed_from_abs w64 (old +ℤ w *ℤ v) (omega (arith, abs-plus old (w *ℤ v) (2 ^ 62 + 2 ^ 61) (2 ^ 34) h (abs-times w v k l))) in
    rw (to_z-of_z w64 old old_fits, to_z-of_z w64 w w_fits, to_z-of_z w64 v v_fits, to_z-of_z w64 (w *ℤ v) product)
    (to_z-of_z w64 (old +ℤ w *ℤ v) sum)
