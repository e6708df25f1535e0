-- The levels of a channel as bytes, before they are turned.
use Rattle.std.specs.Prelude.{◌≡◌, ℕ, ◌+◌, ◌-◌, ◌*◌, ◌/◌, ◌%◌, ◌^◌, ◌<◌, ℤ, nat_lt, Option, Some, None, if◌then◌else◌}
use Rattle.value_codes.specs.Codes.{half_level}

-- the byte of a level and the direction 0: 8 and 16 times the level's half byte, and 0 where there is no level
abbrev pub IsTaken : ℕ → Option ℤ → Type 0
IsTaken code None = code ≡ 0
IsTaken code (Some level) = (half : ℕ) × ((half < 16) × ((code ≡ 8 + 16 * half) × (level ≡ half_level half)))

-- the half byte of a code of four bits
abbrev pub half_of : ℕ → ℕ
half_of code = if nat_lt code 8 then 4 * (code % 2) + (3 - code / 2) else 4 + 4 * (code % 2) + code / 2

-- The byte of a code of so many bits. The levels of one and of two bits are those in the middle of the levels of four bits.
abbrev pub taken_of : ℕ → ℕ → ℕ
taken_of bits code = 8 + 16 * half_of (code + 8 - 2 ^ (bits - 1))
