-- The values of a station's channels in a window of a scan.
use Rattle.std.specs.Prelude.{◌≡◌, ◌≢◌, ℕ, ℤ, pos, ◌-ℤ◌, unsigned_abs, ◌≤◌, int_le, int_lt, ◌&&◌, List, [], length, None, slice_index_or, Vec, if◌then◌else◌}
use Rattle.std.specs.Global.{Global}
use Rattle.std.specs.List.{All}
use Rattle.corr_model.specs.Cell.{Value}

-- The samples from `from` up to, not including, `to`, and the values of each channel from sample `from` on. A channel
-- that the station lacks has no values.
pub record StreamFields : Type 0 where
  pub from : ℤ
  pub to : ℤ
  pub values : List (List Value)

-- the value of a channel at sample n
abbrev pub stream_value : StreamFields → ℕ → ℤ → Value
stream_value s chan n = slice_index_or (slice_index_or s.values chan []) (unsigned_abs (n -ℤ s.from)) None

-- the same, none outside the window
abbrev pub windowed : StreamFields → ℕ → ℤ → Value
windowed s chan n = if int_le s.from n && int_lt n s.to then stream_value s chan n else None

-- a stream of the samples from `from` up to, not including, `to`
pub record IsOfWindow (from to : ℕ) (s : StreamFields) : Type 0 where
  pub begin : s.from ≡ pos from
  pub end : s.to ≡ pos to

-- a component of a level of at most four bits turned by a sector: at most 15 in magnitude
abbrev pub IsLevelPart : ℤ → Type 0
IsLevelPart x = unsigned_abs x ≤ 15

-- both components of such a value
abbrev pub AreLevelled : ℤ × ℤ → Type 0
AreLevelled v = IsLevelPart v.0 × IsLevelPart v.1

-- each list that has a byte has one for each of so many samples
abbrev pub AreWhole : ℕ → List (Vec ℕ Global) → Type 0
AreWhole count chans = All (λ chan. length chan.items ≢ 0 → length chan.items ≡ count) chans
