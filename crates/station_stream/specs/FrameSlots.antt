-- The slots that hold the frames of a thread.
use Rattle.std.specs.Prelude.{◌≡◌, ℕ, ◌+◌, ◌*◌, ◌<◌, ℤ, pos, ◌+ℤ◌, Bool, false, List, take, drop, Option, Some, None, option_map, slice_index_or, if◌then◌else◌}
use Rattle.vdif_frame.specs.Shape.{samples_per_frame}
use Rattle.corr_model.specs.Slots.{Slot}
use Rattle.corr_model.specs.Frames.{frame_slot}
use Rattle.frame_index.specs.declared.frame.SlotAt.{SlotAt}
use Rattle.frame_index.specs.Indexed.{IndexFields, place_in}
use Rattle.frame_index.specs.Recording.{Shelved, slots_on}
use Rattle.station_stream.specs.declared.part.StationPart.{StationPart}
use Rattle.station_stream.specs.declared.place.FramePlace.{FramePlace}
use Rattle.station_stream.specs.Part.{timing_of}
use Rattle.station_stream.specs.Place.{frame_place}

-- the bytes of the first slot, in the files' order, that holds a frame of a thread, none where no slot holds it
abbrev pub slot_of : Shelved → StationPart → ℕ → FramePlace → Option (List ℕ)
slot_of told part thread place =
    option_map (λ (slot : Slot). slot.bytes) (frame_slot part.shape (slots_on told part.shape part.files.now) thread place.second place.number)

-- bytes that are a slot's, or say nothing where there is no slot
abbrev pub slot_if : Bool → List ℕ → Option (List ℕ)
slot_if there bytes = if there then Some bytes else None

-- the frame in which the sample lies that is so many frames behind sample `start`
abbrev pub place_from : StationPart → ℤ → ℕ → FramePlace
place_from part start i = frame_place (timing_of part) (start +ℤ pos (i * samples_per_frame part.shape))

-- the place that an index has for the slot of that frame
abbrev pub slot_at : IndexFields → StationPart → ℕ → ℤ → ℕ → Option SlotAt
slot_at index part thread start i = place_in index thread (place_from part start i).second (place_from part start i).number

-- the slots of so many frames from frame i on, each of this size, follow one another from a place on
abbrev pub IsRun : IndexFields → StationPart → ℕ → ℤ → ℕ → SlotAt → ℕ → ℕ → Type 0
IsRun index part thread start i at size count =
    (k : ℕ) → k < count → slot_at index part thread start (i + k) ≡ Some (record { file = at.file; at = at.at + k * size })

-- the slots of so many frames of a thread from sample `start` on
abbrev pub AreSlots : Shelved → StationPart → ℕ → ℤ → ℕ → List Bool → List ℕ → Type 0
AreSlots told part thread start count there bytes =
    (i : ℕ) → i < count
    → slot_of told part thread (place_from part start i)
    ≡ slot_if (slice_index_or there i false) (take part.shape.frame_bytes (drop (i * part.shape.frame_bytes) bytes))
