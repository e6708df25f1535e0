-- An index on its way: what it says of the slots that it has met.
use Rattle.std.specs.Prelude.{◌≡◌, ℕ, ◌==◌, Bool, ◌&&◌, List, [], ◌∷◌, ◌++◌, length, map, take}
use Rattle.std.specs.List.{list_any, filter}
use Rattle.vdif_frame.specs.Header.{HeaderFields, fields_of}
use Rattle.vdif_frame.specs.Shape.{ShapeFields}
use Rattle.corr_model.specs.Slots.{Slot}
use Rattle.corr_model.specs.Sample.{agrees_with}
use Rattle.frame_index.specs.declared.frame.Frame.{Frame}
use Rattle.frame_index.specs.declared.frame.SlotAt.{SlotAt}
use Rattle.frame_index.specs.declared.builder.Builder.{Builder}
use Rattle.frame_index.specs.FrameOrder.{frame_in, is_earlier}
use Rattle.frame_index.specs.Foreign.{foreign_field}
use Rattle.frame_index.specs.Counted.{is_valid, counts_of}
use Rattle.frame_index.specs.Indexed.{place_of_slot}
use Rattle.frame_index.specs.Passed.{is_passed}

-- the frame in a slot, with the slot's place
abbrev pub placed_frame : Slot → Frame × SlotAt
placed_frame slot = (frame_in slot.bytes, place_of_slot slot)

-- those of the valid slots
abbrev pub valid_frames : ShapeFields → List Slot → List (Frame × SlotAt)
valid_frames shape slots = map placed_frame (filter (λ (slot : Slot). is_valid shape slot.bytes) slots)

-- an earlier slot of the frame's thread agrees and has a later frame
abbrev pub is_behind : ShapeFields → List Slot → Frame → Bool
is_behind shape slots frame =
    list_any (λ (earlier : Slot). agrees_with shape earlier.bytes && ((frame.thread == (fields_of earlier.bytes).thread) && is_earlier frame (frame_in earlier.bytes))) slots

-- what stands in the builder after these slots; the doubled ones are not counted yet
pub record Holds (shape : ShapeFields) (done : List Slot) (builder : Builder) : Type 0 where
  pub frames : builder.frames.entries.items ≡ valid_frames shape done
  pub passed : (frame : Frame) → is_passed builder.latest.last.items frame ≡ is_behind shape done frame
  pub counts : builder.counts ≡ record (counts_of shape done) { doubled = 0 }
  pub none_agrees : builder.none_agrees ≡ foreign_field shape (map (λ (slot : Slot). slot.bytes) done)

-- whatever the first builder stands for, the second stands for it and these slots
abbrev pub Extends : ShapeFields → Builder → Builder → List Slot → Type 0
Extends shape old new slots = (done : List Slot) → Holds shape done old → Holds shape (done ++ slots) new

-- the same for one slot of which the first bytes are given
abbrev pub ExtendsByHead : ShapeFields → Builder → Builder → ℕ → ℕ → List ℕ → Type 0
ExtendsByHead shape old new file at head =
    (bytes : List ℕ) → take 32 bytes ≡ head → length bytes ≡ shape.frame_bytes
    → Extends shape old new (record { file = file; at = at; bytes = bytes } ∷ [])

-- the same for one slot whose header is given
abbrev pub ExtendsByHeader : ShapeFields → Builder → Builder → ℕ → ℕ → HeaderFields → Type 0
ExtendsByHeader shape old new file at h =
    (bytes : List ℕ) → fields_of bytes ≡ h
    → Extends shape old new (record { file = file; at = at; bytes = bytes } ∷ [])
