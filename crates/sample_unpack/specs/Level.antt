-- Codes and levels of samples (VDIF 1.1.1, data array; offset binary).
use Rattle.std.specs.Prelude.{◌≡◌, ℕ, ◌+◌, ◌-◌, ◌*◌, ◌/◌, ◌%◌, ◌^◌, ◌⊎◌, ℤ, pos, ◌-ℤ◌, List, slice_index}

-- the bits of a sample
abbrev pub IsWidth : ℕ → Type 0
IsWidth bits = (bits ≡ 1) ⊎ ((bits ≡ 2) ⊎ (bits ≡ 4))

-- the level of a code of so many bits: the odd numbers about zero, the code 0 the most negative of them
abbrev pub level_of : ℕ → ℕ → ℤ
level_of bits code = pos (2 * code) -ℤ pos (2 ^ bits - 1)

-- the code whose lowest bit is this bit of the data array. Bit 0 is the lowest of byte 0, and a code
-- lies in one byte.
abbrev pub code_at : List ℕ → ℕ → ℕ → ℕ
code_at array bits at = slice_index array (at / 8) / 2 ^ (at % 8) % 2 ^ bits

-- the lowest bit of sample i of a channel: a complete sample holds one of each channel, the first lowest
abbrev pub bit_of : ℕ → ℕ → ℕ → ℕ → ℕ
bit_of bits chans chan i = (i * chans + chan) * bits

-- sample i of a channel in a data array
abbrev pub level_at : List ℕ → ℕ → ℕ → ℕ → ℕ → ℤ
level_at array bits chans chan i = level_of bits (code_at array bits (bit_of bits chans chan i))
