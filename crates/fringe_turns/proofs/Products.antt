-- Turns of a delay so much later, or so much earlier.
use Rattle.std.proofs.Common.{◌≡◌, ℕ, true, false, zero, suc, ◌*◌, ℤ, pos, negsuc, ◌+ℤ◌, ◌-ℤ◌, ◌*ℤ◌, arith}
use Rattle.std.proofs.Math.Nat.{mul-suc}
use Rattle.std.proofs.Math.IntN.{*ℤ_comm, suc_ℤ-*ℤ, +ℤ_one}
use Rattle.std.proofs.lemmas.Int.{ints}
use Rattle.fringe_rotator.specs.Sector.{turn_of}

mul-later : (x : ℤ) (m j : ℕ) → (x +ℤ pos j) *ℤ pos m ≡ x *ℤ pos m +ℤ pos (m * j)
mul-later x m zero =
    let is : x +ℤ pos 0 ≡ x = omega (arith, ints) in
    rw is (omega (arith, ints))
mul-later x m (suc j) =
    let before = mul-later x m j in
    let one = suc_ℤ-*ℤ (x +ℤ pos j) (pos m) in
    let next : x +ℤ pos (suc j) ≡ (x +ℤ pos j) +ℤ pos 1 = omega (arith, ints) in
    rw (next, +ℤ_one (x +ℤ pos j), one, before) (more (x *ℤ pos m))
  where
    more : (p : ℤ) → p +ℤ pos (m * j) +ℤ pos m ≡ p +ℤ pos (m * suc j)
    more p = omega (arith, ints, mul-suc m j)

mul-earlier : (x : ℤ) (m j : ℕ) → (x -ℤ pos j) *ℤ pos m ≡ x *ℤ pos m -ℤ pos (m * j)
mul-earlier x m j =
    let back : (x -ℤ pos j) +ℤ pos j ≡ x = omega (arith, ints) in
    less (x *ℤ pos m) ((x -ℤ pos j) *ℤ pos m) (rw back at (mul-later (x -ℤ pos j) m j))
  where
    less : (p q : ℤ) → p ≡ q +ℤ pos (m * j) → q ≡ p -ℤ pos (m * j)
    less p q e = omega (arith, ints)

later : (x : ℤ) (m j : ℕ) → pos m *ℤ (x +ℤ pos j) ≡ pos m *ℤ x +ℤ pos (m * j)
later x m j = rw (*ℤ_comm (pos m) (x +ℤ pos j), *ℤ_comm (pos m) x) (mul-later x m j)

earlier : (x : ℤ) (m j : ℕ) → pos m *ℤ (x -ℤ pos j) ≡ pos m *ℤ x -ℤ pos (m * j)
earlier x m j = rw (*ℤ_comm (pos m) (x -ℤ pos j), *ℤ_comm (pos m) x) (mul-earlier x m j)

pub upper-later : (hertz j : ℕ) (x : ℤ) → turn_of hertz true (x +ℤ pos j) ≡ turn_of hertz true x +ℤ pos (16 * hertz * j)
upper-later hertz j x = rw (later x (16 * hertz) j) (signs (pos (16 * hertz) *ℤ x) (16 * hertz * j))
  where
    signs : (p : ℤ) (n : ℕ) → pos 1 *ℤ (p +ℤ pos n) ≡ pos 1 *ℤ p +ℤ pos n
    signs p n = omega (arith, ints)

pub upper-earlier : (hertz j : ℕ) (x : ℤ) → turn_of hertz true (x -ℤ pos j) ≡ turn_of hertz true x -ℤ pos (16 * hertz * j)
upper-earlier hertz j x = rw (earlier x (16 * hertz) j) (signs (pos (16 * hertz) *ℤ x) (16 * hertz * j))
  where
    signs : (p : ℤ) (n : ℕ) → pos 1 *ℤ (p -ℤ pos n) ≡ pos 1 *ℤ p -ℤ pos n
    signs p n = omega (arith, ints)

pub lower-later : (hertz j : ℕ) (x : ℤ) → turn_of hertz false (x +ℤ pos j) ≡ turn_of hertz false x -ℤ pos (16 * hertz * j)
lower-later hertz j x = rw (later x (16 * hertz) j) (signs (pos (16 * hertz) *ℤ x) (16 * hertz * j))
  where
    signs : (p : ℤ) (n : ℕ) → negsuc 0 *ℤ (p +ℤ pos n) ≡ negsuc 0 *ℤ p -ℤ pos n
    signs p n = omega (arith, ints)

pub lower-earlier : (hertz j : ℕ) (x : ℤ) → turn_of hertz false (x -ℤ pos j) ≡ turn_of hertz false x +ℤ pos (16 * hertz * j)
lower-earlier hertz j x = rw (earlier x (16 * hertz) j) (signs (pos (16 * hertz) *ℤ x) (16 * hertz * j))
  where
    signs : (p : ℤ) (n : ℕ) → negsuc 0 *ℤ (p -ℤ pos n) ≡ negsuc 0 *ℤ p +ℤ pos n
    signs p n = omega (arith, ints)
