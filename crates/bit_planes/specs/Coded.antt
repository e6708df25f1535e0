-- Values by codes, which tests hold.
use Rattle.std.specs.Prelude.{ℕ, ◌/◌, ◌%◌, ℤ, pos, negsuc, nat_lt, List, [], ◌∷◌, slice_index_or, Some, None, if◌then◌else◌}
use Rattle.corr_model.specs.Cell.{Value}

-- the components of codes 0 to 6, and 15 for all others
abbrev pub components : List ℤ
components = pos 0 ∷ pos 1 ∷ negsuc 0 ∷ pos 3 ∷ negsuc 2 ∷ pos 13 ∷ negsuc 9 ∷ []

abbrev pub level_of : ℕ → ℤ
level_of code = slice_index_or components code (pos 15)

-- the components have the codes of two digits to the base 8, and from 64 on there is no value
abbrev pub coded : ℕ → Value
coded code = if nat_lt 63 code then None else Some (level_of (code % 8), level_of (code / 8))
