-- Fields of so many bits in the lanes of a vector, several to a lane, the lowest first.
use Rattle.std.specs.Prelude.{ℕ, ◌*◌, ◌/◌, ◌%◌, ◌^◌, List, slice_index}

-- field i, where each lane has `per` fields
abbrev pub field_at : List ℕ → ℕ → ℕ → ℕ → ℕ
field_at lanes per width i = slice_index lanes (i / per) / 2 ^ (width * (i % per)) % 2 ^ width
