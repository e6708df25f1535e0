-- The counts of a station's slots. Each is the number of slots with a property that may speak of the slots before.
use Rattle.std.specs.Prelude.{ℕ, ◌+◌, ◌==◌, nat_lt, int_lt, not, ◌&&◌, ◌||◌, Bool, List, [], ◌∷◌, ◌++◌, length, if◌then◌else◌}
use Rattle.std.specs.List.{list_any}
use Rattle.std.specs.Ordering.{int_eq}
use Rattle.vdif_frame.specs.Header.{fields_of}
use Rattle.vdif_frame.specs.Shape.{ShapeFields}
use Rattle.corr_model.specs.Slots.{Slot}
use Rattle.corr_model.specs.Sample.{agrees_with}
use Rattle.corr_model.specs.Frames.{second_in, holds_frame}
use Rattle.frame_index.specs.declared.counts.Counts.{Counts}

-- how many of these slots have the property, the first of them coming after `before`
abbrev pub count_after : (List Slot → Slot → Bool) → List Slot → List Slot → ℕ
count_after p before [] = 0
count_after p before (slot ∷ slots) = (if p before slot then 1 else 0) + count_after p (before ++ slot ∷ []) slots

-- how many slots of a list have the property
abbrev pub count_where : (List Slot → Slot → Bool) → List Slot → ℕ
count_where p slots = count_after p [] slots

-- a slot that does not agree with the shape
abbrev pub is_foreign : ShapeFields → List Slot → Slot → Bool
is_foreign shape before slot = not (agrees_with shape slot.bytes)

-- one that agrees and is marked invalid
abbrev pub is_invalid : ShapeFields → List Slot → Slot → Bool
is_invalid shape before slot = agrees_with shape slot.bytes && (fields_of slot.bytes).invalid

-- one that agrees and is not marked invalid
abbrev pub is_valid : ShapeFields → List ℕ → Bool
is_valid shape slot = agrees_with shape slot && not (fields_of slot).invalid

-- a valid one whose frame an earlier slot holds
abbrev pub is_doubled : ShapeFields → List Slot → Slot → Bool
is_doubled shape before slot =
    is_valid shape slot.bytes
    && list_any (λ (earlier : Slot). holds_frame shape (fields_of slot.bytes).thread (second_in slot.bytes) (fields_of slot.bytes).frame earlier.bytes) before

-- the frame in a slot comes before that in another: by its second, and in one second by its number
abbrev pub comes_before : List ℕ → List ℕ → Bool
comes_before slot other =
    int_lt (second_in slot) (second_in other)
    || (int_eq (second_in slot) (second_in other) && nat_lt (fields_of slot).frame (fields_of other).frame)

-- one that agrees, invalid or not, whose frame comes before that in an earlier slot of its thread that agrees
abbrev pub is_late : ShapeFields → List Slot → Slot → Bool
is_late shape before slot =
    agrees_with shape slot.bytes
    && list_any (λ (earlier : Slot). agrees_with shape earlier.bytes && (((fields_of slot.bytes).thread == (fields_of earlier.bytes).thread) && comes_before slot.bytes earlier.bytes)) before

-- the counts of these slots
abbrev pub counts_of : ShapeFields → List Slot → Counts
counts_of shape slots = record {
  slots = length slots;
  doubled = count_where (is_doubled shape) slots;
  invalid = count_where (is_invalid shape) slots;
  foreign = count_where (is_foreign shape) slots;
  late = count_where (is_late shape) slots;
}
