-- What a station's clock is ahead.
use Rattle.std.specs.Prelude.{ℕ, ℤ, pos, ◌+ℤ◌, ◌*ℤ◌}
use Rattle.std.specs.Int.{int_div_euclid}

-- the offset c0, and what the drift of c1 a second adds over u samples at R samples a second, rounded
-- down: c0 + floor (c1 * u / R)
abbrev pub reading : ℤ → ℤ → ℤ → ℕ → ℤ
reading c0 c1 u rate = c0 +ℤ int_div_euclid (c1 *ℤ u) (pos rate)
