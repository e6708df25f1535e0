-- The files of a station on a shelf.
use Rattle.std.specs.Prelude.{◌≡◌, ℕ, ◌/◌, List, map, sum_by, Option, Some}
use Rattle.std.specs.List.{All}
use Rattle.std.specs.Str.{IsUtf8}
use Rattle.dev_traits.specs.Files.{size_of, bytes_of}
use Rattle.vdif_frame.specs.Shape.{ShapeFields}
use Rattle.corr_model.specs.Slots.{Slot, station_slots}
use Rattle.frame_index.specs.declared.recording.FileRef.{FileRef}

-- what stands under each name
abbrev pub Shelved : Type 0
Shelved = List ℕ → Option (List ℕ)

-- a file whose name is a text and whose size is that of the file on the shelf
pub record IsOnShelf (shelf : Shelved) (file : FileRef) : Type 0 where
  pub text : IsUtf8 file.name
  pub size : size_of (shelf file.name) ≡ Some file.size

abbrev pub AreOnShelf : List FileRef → Shelved → Type 0
AreOnShelf files shelf = All (IsOnShelf shelf) files

-- the bytes of each file
abbrev pub bytes_on : Shelved → List FileRef → List (List ℕ)
bytes_on shelf files = map (λ (file : FileRef). bytes_of (shelf file.name)) files

-- the slots of a station's files, with their places
abbrev pub slots_on : Shelved → ShapeFields → List FileRef → List Slot
slots_on shelf shape files = station_slots shape.frame_bytes (bytes_on shelf files)

-- the number of slots of a length, by the files' sizes
abbrev pub slots_by_size : ℕ → List FileRef → ℕ
slots_by_size size files = sum_by (λ (file : FileRef). file.size / size) files

abbrev pub slot_total : ShapeFields → List FileRef → ℕ
slot_total shape files = slots_by_size shape.frame_bytes files
