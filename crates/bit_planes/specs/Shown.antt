-- The planes of bits that show values.
use Rattle.std.specs.Prelude.{ℕ, ◌-◌, ◌/◌, ◌%◌, ◌^◌, ◌==◌, ◌&&◌, ℤ, pos, int_lt, unsigned_abs, Bool, Some, None, if◌then◌else◌}
use Rattle.corr_model.specs.Cell.{Value}

-- whether a ternary part of a component is not 0: of u + 2v + 4w + 8y, the parts 0 to 3, those that bits 0 to 3 of its magnitude say
abbrev pub has_part : ℕ → ℤ → Bool
has_part part x = unsigned_abs x / 2 ^ part % 2 == 1

-- whether a component has the sign: 0 is plus and 1 is minus
abbrev pub has_sign : ℕ → ℤ → Bool
has_sign sign x = if sign == 0 then int_lt (pos 0) x else int_lt x (pos 0)

-- the bit of a component in the plane of a part and a sign, 2t + s
abbrev pub part_bit : ℕ → ℤ → ℕ
part_bit place x = if has_part (place / 2 % 4) x && has_sign (place % 2) x then 1 else 0

-- The bit of a value in plane 0, which says where there is one, and in plane 1 + 8c + 2t + s: whether part t of the real
-- component (c is 0) or of the imaginary one (c is 1) is there with the sign s. Where there is no value each bit is 0.
abbrev pub plane_bit : ℕ → Value → ℕ
plane_bit plane None = 0
plane_bit plane (Some v) =
    if plane == 0 then 1 else part_bit (plane - 1) (if (plane - 1) / 8 == 0 then v.0 else v.1)
