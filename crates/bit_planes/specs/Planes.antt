-- The values that planes hold.
use Rattle.std.specs.Prelude.{ℕ, ◌^◌, ◌≤◌, ◌&&◌, ℤ, pos, ◌-ℤ◌, ◌≤ℤ◌, int_le, int_lt, unsigned_abs, List, None, length, slice_index_or, if◌then◌else◌}
use Rattle.corr_model.specs.Cell.{Value}

-- The samples from `from` up to, not including, `to`, and the values of those that are held, from the first on.
pub record PlanesFields : Type 0 where
  pub from : ℤ
  pub to : ℤ
  pub values : List Value

-- value k of those that are held, none past the last one
abbrev pub held_value : PlanesFields → ℕ → Value
held_value p k = slice_index_or p.values k None

-- the value at sample n, none outside the range
abbrev pub plane_value : PlanesFields → ℤ → Value
plane_value p n = if int_le p.from n && int_lt n p.to then held_value p (unsigned_abs (n -ℤ p.from)) else None

-- how many samples there are
abbrev pub size_of : PlanesFields → ℕ
size_of p = unsigned_abs (p.to -ℤ p.from)

-- planes of a scan, which has at most 2^40 samples
pub record ArePlanes (p : PlanesFields) : Type 0 where
  pub start : pos 0 ≤ℤ p.from
  pub order : p.from ≤ℤ p.to
  pub end : p.to ≤ℤ pos (2 ^ 40)
  pub held : length p.values ≤ size_of p
