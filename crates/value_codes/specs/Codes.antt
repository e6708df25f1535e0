-- A value as a byte: bit 3 says that there is one, the higher half of the byte is a level's, and the three lowest bits are the direction
-- that it is turned by.
use Rattle.std.specs.Prelude.{ℕ, ◌+◌, ◌-◌, ◌*◌, ◌/◌, ◌%◌, ◌==◌, ℤ, nat_lt, Some, None, if◌then◌else◌}
use Rattle.sample_unpack.specs.Level.{level_of}
use Rattle.corr_model.specs.Cell.{Value}
use Rattle.corr_model.specs.Rotated.{turned}

-- A level turned by a direction, an eighth of a turn. Two sectors side by side turn a level alike: the sectors 15 and 0 have the
-- direction 0, 1 and 2 the direction 1, ..
abbrev pub turned_by : ℤ → ℕ → ℤ × ℤ
turned_by level direction = turned level (2 * direction)

-- The code among the sixteen of four bits of a level's half byte. The half's two higher bits are the code's bits 3 and 0; its two lower
-- ones are the code's bits 2 and 1, each the other way round where bit 3 is 0. So a level and its opposite differ in the two higher bits
-- alone, and the four levels of two bits, in the middle of the sixteen, have no lower ones.
abbrev pub code_of_half : ℕ → ℕ
code_of_half half = if nat_lt half 8 then 6 + half / 4 - 2 * (half % 4) else 6 + half / 4 + 2 * (half % 4)

-- the level of a half byte
abbrev pub half_level : ℕ → ℤ
half_level half = level_of 4 (code_of_half half)

abbrev pub value_of : ℕ → Value
value_of code = if code / 8 % 2 == 0 then None else Some (turned_by (half_level (code / 16 % 16)) (code % 8))
