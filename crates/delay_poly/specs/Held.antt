-- A polynomial in an array of six.
use Rattle.std.specs.Prelude.{◌≡◌, ◌-◌, ◌≤◌, List, ◌++◌, length, take, drop, replicate, ℤ, pos, refl}
use Rattle.std.proofs.Common.{arith, length-take}
use Rattle.std.proofs.lemmas.List.{take-append-drop}
use Rattle.delay_poly.specs.Nested.{IsPoly}
use Rattle.delay_poly.specs.declared.poly.Poly.TheInside.{Inside}

-- the coefficients in use
abbrev pub shown : Inside → List ℤ
shown p = take p.len p.coeffs

-- those in use are a polynomial, and the others are zero
pub record IsHeld (p : Inside) : Type 0 where
  pub full : length p.coeffs ≡ 6
  pub within : p.len ≤ 6
  pub poly : IsPoly (shown p)
  pub zeros : drop p.len p.coeffs ≡ replicate (6 - p.len) (pos 0)

-- an array that holds these coefficients
abbrev pub held : List ℤ → Inside
held coeffs = record { coeffs = coeffs ++ replicate (6 - length coeffs) (pos 0); len = length coeffs }

pub held-shown : (p : Inside) → IsHeld p → held (shown p) ≡ p
held-shown p h =
    let long : length (take p.len p.coeffs) ≡ p.len = omega (arith, length-take p.len p.coeffs, h.full, h.within) in
    let rest : replicate (6 - length (take p.len p.coeffs)) (pos 0) ≡ drop p.len p.coeffs = rw (long, h.zeros) refl in
    let whole : take p.len p.coeffs ++ replicate (6 - length (take p.len p.coeffs)) (pos 0) ≡ p.coeffs = rw (rest, take-append-drop p.len p.coeffs) refl in
    λ i. record { coeffs = whole i; len = long i }
