-- The pieces that a seat has not finished.
use Rattle.std.specs.Prelude.{ℕ, ◌==◌, if◌then◌else◌, List}
use Rattle.piece_claim.specs.State.{Piece, sum_below}
use Rattle.atomic_sums.specs.Views.{times_in}

-- 1 for a number that none of these pieces has
abbrev pub missing : List Piece → ℕ → ℕ
missing finished n = if times_in n finished == 0 then 1 else 0

-- how many numbers below m none of these pieces has
abbrev pub left : List Piece → ℕ → ℕ
left finished m = sum_below (missing finished) m
