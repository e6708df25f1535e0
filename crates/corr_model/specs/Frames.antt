-- The frames of a recording, each told by its thread, its second and its number in that second (VDIF 1.1.1).
use Rattle.std.specs.Prelude.{ℕ, ◌==◌, ℤ, pos, ◌+ℤ◌, not, ◌&&◌, Bool, List, Option, find}
use Rattle.std.specs.Ordering.{int_eq}
use Rattle.num_time.specs.Numbers.{epoch_second_of}
use Rattle.vdif_frame.specs.Header.{fields_of}
use Rattle.vdif_frame.specs.Shape.{ShapeFields}
use Rattle.corr_model.specs.Slots.{Slot}
use Rattle.corr_model.specs.Sample.{Timing, agrees_with, counts_for}

-- the second of the frame in a slot: that of its reference epoch and the seconds from there on
abbrev pub second_in : List ℕ → ℤ
second_in slot = epoch_second_of (fields_of slot).epoch +ℤ pos (fields_of slot).seconds

-- whether a slot holds a frame: it agrees with the shape, isn't marked invalid, and is of that thread, second
-- and number
abbrev pub holds_frame : ShapeFields → ℕ → ℤ → ℕ → List ℕ → Bool
holds_frame shape thread second number slot =
    agrees_with shape slot
    && (not (fields_of slot).invalid
    && (((fields_of slot).thread == thread) && (int_eq (second_in slot) second && ((fields_of slot).frame == number))))

-- the first slot, in the files' order, that holds the frame
abbrev pub frame_slot : ShapeFields → List Slot → ℕ → ℤ → ℕ → Option Slot
frame_slot shape slots thread second number =
    find (λ (slot : Slot). holds_frame shape thread second number slot.bytes) slots

-- the first slot, in the files' order, that counts for sample p of a thread
abbrev pub counted_slot : Timing → ℕ → List Slot → ℤ → Option Slot
counted_slot t thread slots p = find (λ (slot : Slot). counts_for t thread p slot.bytes) slots
