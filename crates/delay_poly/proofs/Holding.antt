-- Coefficients written into an array of zeros.
use Rattle.std.proofs.Common.{◌≡◌, ◌-◌, List, ◌++◌, length, drop, replicate, ℤ, pos, arith, refl, length-append, length-drop}
use Rattle.std.proofs.lemmas.List.{take_at, drop_at, drop-replicate}
use Rattle.delay_poly.specs.Nested.{IsPoly}
use Rattle.delay_poly.specs.Held.{IsHeld}

pub IsHeld-written : (coeffs written : List ℤ) → written ≡ coeffs → IsPoly coeffs
    → IsHeld record { coeffs = written ++ drop (length coeffs) (replicate 6 (pos 0)); len = length coeffs }
IsHeld-written coeffs written e h =
    let behind : List ℤ = drop (length coeffs) (replicate 6 (pos 0)) in
    let rest : length behind ≡ 6 - length coeffs = length-drop (length coeffs) (replicate 6 (pos 0)) in
    rw e record {
      full = omega (arith, length-append coeffs behind, rest, h.few);
      within = h.few;
      poly = rw (take_at coeffs behind (length coeffs) refl) h;
      zeros = rw (drop_at coeffs behind (length coeffs) refl) (drop-replicate (length coeffs) 6 (pos 0));
    }
