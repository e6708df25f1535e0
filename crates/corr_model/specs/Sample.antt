-- The sample of a station's channel at a place of a scan.
use Rattle.std.specs.Prelude.{ℕ, ◌==◌, ℤ, pos, ◌+ℤ◌, ◌-ℤ◌, int_le, int_lt, unsigned_abs, Bool, not, ◌&&◌, List, drop, Option, is_none, option_map, find}
use Rattle.vdif_frame.specs.Header.{fields_of}
use Rattle.vdif_frame.specs.Shape.{ShapeFields, head_bytes, chans_of, samples_per_frame}
use Rattle.vdif_frame.specs.Agreement.{first_field}
use Rattle.vdif_frame.specs.Place.{place_of}
use Rattle.sample_unpack.specs.Level.{level_at}
use Rattle.corr_model.specs.Slots.{slots_of}

-- where a recording holds a channel: in the frames of a thread, at a place in their complete samples
pub record Recorded : Type 0 where
  pub thread : ℕ
  pub index : ℕ

-- the frames of a station as seen from a scan: their shape, the second at which the scan starts and
-- the samples in a second
pub record Timing : Type 0 where
  pub shape : ShapeFields
  pub start : ℤ
  pub rate : ℕ

abbrev pub agrees_with : ShapeFields → List ℕ → Bool
agrees_with shape slot = is_none (first_field (fields_of slot) shape)

-- the number of a slot's first sample in the scan
abbrev pub slot_place : Timing → List ℕ → ℤ
slot_place t slot = place_of (fields_of slot) t.shape t.start t.rate

-- the slot's samples are those from its place on, as many as a frame has
abbrev pub covers : Timing → List ℕ → ℤ → Bool
covers t slot p =
    int_le (slot_place t slot) p
    && int_lt p (slot_place t slot +ℤ pos (samples_per_frame t.shape))

-- whether a slot counts for sample p of a thread: it agrees with the shape, isn't marked invalid, is
-- of that thread and covers p
abbrev pub counts_for : Timing → ℕ → ℤ → List ℕ → Bool
counts_for t thread p slot =
    agrees_with t.shape slot
    && (not (fields_of slot).invalid && (((fields_of slot).thread == thread) && covers t slot p))

-- sample p of the scan as a slot that covers it holds it
abbrev pub level_in : Timing → ℕ → ℤ → List ℕ → ℤ
level_in t index p slot =
    level_at (drop (head_bytes t.shape.legacy) slot) t.shape.bits (chans_of t.shape) index
    (unsigned_abs (p -ℤ slot_place t slot))

-- the sample: that of the first slot, in the files' order, that counts
abbrev pub sample_in : Timing → Recorded → List (List ℕ) → ℤ → Option ℤ
sample_in t r slots p = option_map (level_in t r.index p) (find (counts_for t r.thread p) slots)

abbrev pub sample_of : Timing → Recorded → List (List ℕ) → ℤ → Option ℤ
sample_of t r files p = sample_in t r (slots_of t.shape.frame_bytes files) p
