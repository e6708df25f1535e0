-- One coefficient more in front.
use Rattle.std.proofs.Common.{◌≡◌, ℕ, ◌+◌, ◌≤◌, ◌<◌, List, length, drop, get_or, ℤ, unsigned_abs, arith}
use Rattle.std.proofs.lemmas.List.Sums.{sum_by-drop_more, sum_by-take-drop}
use Rattle.delay_poly.specs.Nested.{magnitude}

pub magnitude-drop : (coeffs : List ℤ) (i : ℕ) (d : ℤ) → i < length coeffs
    → magnitude (drop i coeffs) ≡ unsigned_abs (get_or coeffs i d) + magnitude (drop (i + 1) coeffs)
magnitude-drop coeffs i d h = sum_by-drop_more unsigned_abs coeffs i d h

pub magnitude-drop-le : (coeffs : List ℤ) (i : ℕ) → magnitude (drop i coeffs) ≤ magnitude coeffs
magnitude-drop-le coeffs i = omega (arith, sum_by-take-drop unsigned_abs coeffs i)
