-- The slots of a recording: its bytes cut into pieces of one frame's length.
use Rattle.std.specs.Prelude.{ℕ, ◌+◌, ◌*◌, ◌/◌, List, [], ◌∷◌, ◌++◌, map, length, take, drop}
use Rattle.std.specs.List.{range_with_len}

-- a slot: the number of its file among the station's files, the place of its first byte in that file, its bytes
pub record Slot : Type 0 where
  pub file : ℕ
  pub at : ℕ
  pub bytes : List ℕ

-- slot k of a file
abbrev pub slot_at : ℕ → List ℕ → ℕ → List ℕ
slot_at size bytes k = take size (drop (k * size) bytes)

-- the slots that lie wholly in a file
abbrev pub slots_in : ℕ → List ℕ → List (List ℕ)
slots_in size bytes = map (slot_at size bytes) (range_with_len 0 (length bytes / size))

-- slot k of the file of a number, with its place
abbrev pub placed_slot : ℕ → ℕ → List ℕ → ℕ → Slot
placed_slot size file bytes k = record { file = file; at = k * size; bytes = slot_at size bytes k }

-- the slots of the file of a number, with their places
abbrev pub placed_in : ℕ → ℕ → List ℕ → List Slot
placed_in size file bytes = map (placed_slot size file bytes) (range_with_len 0 (length bytes / size))

-- those of files in their order, the first of which has this number
abbrev pub placed_from : ℕ → ℕ → List (List ℕ) → List Slot
placed_from size file [] = []
placed_from size file (bytes ∷ files) = placed_in size file bytes ++ placed_from size (file + 1) files

-- the slots of a station with their places: those of its files, in their order
abbrev pub station_slots : ℕ → List (List ℕ) → List Slot
station_slots size files = placed_from size 0 files

-- the slots of a station: the bytes of each
abbrev pub slots_of : ℕ → List (List ℕ) → List (List ℕ)
slots_of size files = map (λ (slot : Slot). slot.bytes) (station_slots size files)
