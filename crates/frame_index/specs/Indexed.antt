-- What the index of a station's frames says.
use Rattle.std.specs.Prelude.{◌≡◌, ℕ, ℤ, List, Option, option_map}
use Rattle.std.specs.Map.{lookup}
use Rattle.std.specs.BTreeMap.{is_at}
use Rattle.vdif_frame.specs.Shape.{ShapeFields}
use Rattle.corr_model.specs.Slots.{Slot}
use Rattle.corr_model.specs.Frames.{frame_slot}
use Rattle.frame_index.specs.declared.counts.Counts.{Counts}
use Rattle.frame_index.specs.declared.frame.Frame.{Frame}
use Rattle.frame_index.specs.declared.frame.SlotAt.{SlotAt}
use Rattle.frame_index.specs.FrameOrder.{frame_cmp}
use Rattle.frame_index.specs.Counted.{counts_of}

-- the frames with the places of their slots, and the counts
pub record IndexFields : Type 0 where
  pub entries : List (Frame × SlotAt)
  pub counts : Counts

-- the place under a frame's thread, second and number
abbrev pub place_in : IndexFields → ℕ → ℤ → ℕ → Option SlotAt
place_in index thread second number =
    lookup (is_at (frame_cmp (record { thread = thread; second = second; number = number }))) index.entries

-- the place of a slot
abbrev pub place_of_slot : Slot → SlotAt
place_of_slot slot = record { file = slot.file; at = slot.at }

-- the place of the first slot, in the files' order, that holds a frame
abbrev pub frame_place : ShapeFields → List Slot → ℕ → ℤ → ℕ → Option SlotAt
frame_place shape slots thread second number = option_map place_of_slot (frame_slot shape slots thread second number)

-- an index of these slots: under each frame the place of the first slot that holds it, and the slots' counts
pub record IsIndexOf (shape : ShapeFields) (slots : List Slot) (index : IndexFields) : Type 0 where
  pub places : (thread : ℕ) (second : ℤ) (number : ℕ) → place_in index thread second number ≡ frame_place shape slots thread second number
  pub counts : index.counts ≡ counts_of shape slots
