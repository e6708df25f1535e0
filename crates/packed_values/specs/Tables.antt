-- The components of a value code by two tables of sixteen: the level of its higher half byte, turned over in sign or taken away by what
-- its lower half byte says.
use Rattle.std.specs.Prelude.{◌≡◌, ◌⊎◌, ℕ, ◌+◌, ◌/◌, ◌%◌, ◌^◌, ◌<◌, ◌==◌, ◌||◌, Bool, nat_lt, pos, negsuc, List, length, slice_index, bit_xor, if◌then◌else◌}
use Rattle.std.specs.List.{list_all}
use Rattle.byte_lags.specs.declared.product.Weights.{Weights}

-- a table's byte, 0 from 128 on
abbrev pub looked_up : List ℕ → ℕ → ℕ
looked_up table at = if nat_lt at 128 then slice_index table at else 0

-- a component with the bias, from the levels by half bytes and the signs by lower half bytes
abbrev pub biased_of : List ℕ → List ℕ → ℕ → ℕ → ℕ
biased_of levels signs bias code = (looked_up levels (bit_xor (code / 16) (slice_index signs (code % 16))) + bias) % 2 ^ 8

-- 1 where there is a value
abbrev pub there_of : ℕ → ℕ
there_of code = code / 8 % 2

-- what a level's half byte is turned over with: nothing, 12, which gives the opposite level, or 128, which takes it away
abbrev pub is_sign : ℕ → Bool
is_sign sign = sign == 0 || (sign == 12 || sign == 128)

abbrev pub are_signs : List ℕ → Bool
are_signs signs = list_all is_sign signs

-- a code whose level one or two bits have
abbrev pub IsNarrow : ℕ → Type 0
IsNarrow code = code / 16 % 4 ≡ 0

-- a bias of codes: 15, or 3 where the levels of all are those of one or two bits
abbrev pub IsBiasOf : ℕ → List ℕ → Type 0
IsBiasOf bias codes = (bias ≡ 15) ⊎ ((bias ≡ 3) × ((k : ℕ) → k < length codes → IsNarrow (slice_index codes k)))

-- a code of a value that has one of the directions 0 to 3 or its opposite
abbrev pub IsAlong : ℕ → ℕ → Type 0
IsAlong direction code = (there_of code ≡ 1) × (code % 4 ≡ direction)

-- how many times a level along a direction counts in the real part and in the imaginary one
abbrev pub weights_along : ℕ → Weights
weights_along direction =
    if direction == 0 then record { re = pos 1; im = pos 0 }
    else if direction == 1 then record { re = pos 1; im = pos 1 }
    else if direction == 2 then record { re = pos 0; im = pos 1 }
    else record { re = negsuc 0; im = pos 1 }
