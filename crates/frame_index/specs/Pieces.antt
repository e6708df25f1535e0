-- Pieces of a file that are read at once.
use Rattle.std.specs.Prelude.{◌≡◌, ℕ, ◌+◌, ◌*◌, ◌/◌, ◌≤◌, List, length, map, take, drop}
use Rattle.std.specs.List.{range_with_len}
use Rattle.corr_model.specs.Slots.{Slot, placed_slot}

-- slots k to k + n - 1 of the file of a number
abbrev pub placed_run : ℕ → ℕ → List ℕ → ℕ → ℕ → List Slot
placed_run size file bytes k n = map (placed_slot size file bytes) (range_with_len k n)

-- the file has these slots, and the piece is the file's bytes from the begin of the first one on
pub record IsPieceOf (size : ℕ) (bytes : List ℕ) (k n : ℕ) (piece : List ℕ) : Type 0 where
  pub within : k + n ≤ length bytes / size
  pub is : piece ≡ take (length piece) (drop (k * size) bytes)
