-- Where a slot stands in a station's files.
use Rattle.std.specs.Prelude.{ℕ, ◌+◌, ◌<◌, ◌≤◌, List, [], length, take, drop, slice_index_or}
use Rattle.frame_index.specs.declared.frame.SlotAt.{SlotAt}

-- There is a file of that number, and it has so many bytes from the place on.
pub record StandsAt (files : List (List ℕ)) (at : SlotAt) (size : ℕ) : Type 0 where
  pub file : at.file < length files
  pub whole : at.at + size ≤ length (slice_index_or files at.file [])

-- so many bytes from the place on
abbrev pub bytes_at : List (List ℕ) → SlotAt → ℕ → List ℕ
bytes_at files at size = take size (drop at.at (slice_index_or files at.file []))
