-- The order of frames, and what stands under a frame among entries.
use Rattle.std.specs.Prelude.{ℕ, ◌≡◌, nat_lt, int_lt, Bool, false, ◌&&◌, ◌||◌, List, Option}
use Rattle.std.specs.Ordering.{nat_cmp, int_cmp, int_eq, is_gt, eq_by_cmp, ordering_then}
use Rattle.std.specs.List.{AllPairs}
use Rattle.std.specs.Map.{keys_of, lookup}
use Rattle.std.specs.Set.{distinct_count}
use Rattle.std.specs.BTreeMap.{is_at}
use Rattle.std.specs.declared.cmp.Ordering.{Ordering}
use Rattle.vdif_frame.specs.Header.{fields_of}
use Rattle.corr_model.specs.Frames.{second_in}
use Rattle.frame_index.specs.declared.frame.Frame.{Frame}
use Rattle.frame_index.specs.declared.frame.SlotAt.{SlotAt}

-- by the second, in one second by the number, and of one number by the thread
abbrev pub frame_cmp : Frame → Frame → Ordering
frame_cmp a b = ordering_then (int_cmp a.second b.second) (ordering_then (nat_cmp a.number b.number) (nat_cmp a.thread b.thread))

-- of two frames of one thread the first is the earlier
abbrev pub is_earlier : Frame → Frame → Bool
is_earlier a b = int_lt a.second b.second || (int_eq a.second b.second && nat_lt a.number b.number)

-- the frame in a slot
abbrev pub frame_in : List ℕ → Frame
frame_in slot = record { second = second_in slot; number = (fields_of slot).frame; thread = (fields_of slot).thread }

-- by the file, and in one file by the place in it
abbrev pub place_cmp : SlotAt → SlotAt → Ordering
place_cmp a b = ordering_then (nat_cmp a.file b.file) (nat_cmp a.at b.at)

-- frames with places that follow one another
abbrev pub AreInFileOrder : List (Frame × SlotAt) → Type 0
AreInFileOrder entries = AllPairs (λ (a b : Frame × SlotAt). is_gt (place_cmp a.1 b.1) ≡ false) entries

-- the first place that stands with a frame
abbrev pub place_under : List (Frame × SlotAt) → Frame → Option SlotAt
place_under entries frame = lookup (is_at (frame_cmp frame)) entries

-- how many frames there are, each of which counts once
abbrev pub frames_in : List (Frame × SlotAt) → ℕ
frames_in entries = distinct_count (eq_by_cmp frame_cmp) (keys_of entries)
