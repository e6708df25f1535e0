-- The fringe function at three levels, sector by sector.
use Rattle.std.specs.Prelude.{ℕ, ◌+◌, ◌%◌, List, [], ◌∷◌, ℤ, pos, negsuc, get_or}

-- the cosine of each of the sixteen sectors
abbrev pub cosines : List ℤ
cosines =
    pos 1 ∷ pos 1 ∷ pos 1 ∷ pos 0 ∷ pos 0 ∷ negsuc 0 ∷ negsuc 0 ∷ negsuc 0
    ∷ negsuc 0 ∷ negsuc 0 ∷ negsuc 0 ∷ pos 0 ∷ pos 0 ∷ pos 1 ∷ pos 1 ∷ pos 1 ∷ []

abbrev pub cos3 : ℕ → ℤ
cos3 k = get_or cosines k (pos 0)

-- the sine, three quarters of a turn on
abbrev pub sin3 : ℕ → ℤ
sin3 k = cos3 ((k + 12) % 16)
