-- What the codes of a cut have in common, and what their row is.
use Rattle.std.specs.Prelude.{ℕ, ◌<◌, ℤ, pos, ◌+ℤ◌, Bool, true, false}
use Rattle.byte_streams.specs.declared.row.Row.{Row}
use Rattle.byte_streams.specs.declared.row.Row.TheVariants.{Turning, Still}
use Rattle.packed_values.specs.Words.{word_at}
use Rattle.packed_values.specs.declared.row.Packed.{Packed}
use Rattle.packed_values.specs.declared.row.Packed.TheVariants.{Codes, Words}

-- `count` codes of a row from place `start` on are each so. Before the first place and past the last one the code is 0, of no value and
-- of a level of two bits; a row of words has no codes.
abbrev pub AllCodes : (ℕ → Type 0) → Packed → ℤ → ℕ → Type 0
AllCodes P (Codes codes) start count = (k : ℕ) → k < count → P (word_at codes.now 0 (start +ℤ pos k))
AllCodes P (Words row) start count = ⊥

-- whether a row is of levels along one direction
abbrev pub is_still : Row → Bool
is_still (Turning s) = false
is_still (Still s) = true
