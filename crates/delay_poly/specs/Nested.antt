-- A delay as a polynomial in the number of a knot.
use Rattle.std.specs.Prelude.{ℕ, ◌^◌, ◌≤◌, ◌<◌, List, [], ◌∷◌, length, ℤ, pos, ◌+ℤ◌, ◌*ℤ◌, unsigned_abs}
use Rattle.std.specs.Int.{int_div_euclid}
use Rattle.std.specs.List.{sum_by}

-- the value of these coefficients at knot j, the product behind each rounded down
abbrev pub nested : List ℤ → ℕ → ℤ
nested [] j = pos 0
nested (c ∷ cs) j = c +ℤ int_div_euclid (nested cs j *ℤ pos j) (pos (2 ^ 24))

-- the sum of the coefficients' magnitudes
abbrev pub magnitude : List ℤ → ℕ
magnitude coeffs = sum_by unsigned_abs coeffs

-- the lists that are polynomials
pub record IsPoly (coeffs : List ℤ) : Type 0 where
  pub some : 0 < length coeffs
  pub few : length coeffs ≤ 6
  pub small : magnitude coeffs < 2 ^ 58
