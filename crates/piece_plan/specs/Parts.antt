-- Ranges of sample numbers, and how one is cut.
use Rattle.std.specs.Prelude.{◌≡◌, ℕ, ◌+◌, ◌-◌, ◌*◌, ◌<◌, min, List, [], ◌∷◌, map}
use Rattle.std.specs.Int.{div_ceil}
use Rattle.std.specs.List.{range_with_len}

-- the numbers from `from` up to, not including, `to`
pub record Range : Type 0 where
  pub from : ℕ
  pub to : ℕ

-- part k of a range that is cut every `step` numbers; the last part ends where the range does
abbrev pub part_at : ℕ → ℕ → ℕ → ℕ → Range
part_at from to step k = record { from = from + k * step; to = min (from + (k + 1) * step) to }

-- how many parts there are
abbrev pub part_count : ℕ → ℕ → ℕ → ℕ
part_count from to step = div_ceil (to - from) step

-- the parts in order
unfoldable pub parts : ℕ → ℕ → ℕ → List Range
parts from to step = map (part_at from to step) (range_with_len 0 (part_count from to step))

-- Ranges go through the numbers from `from` up to, not including, `to`: the first begins at `from`, each next one
-- where the one before it ends, none is empty, and the last ends at `to`.
abbrev pub GoThrough : ℕ → ℕ → List Range → Type 0
GoThrough from to [] = from ≡ to
GoThrough from to (r ∷ ranges) = (r.from ≡ from) × (r.from < r.to) × GoThrough r.to to ranges
