-- The slots of the frames of a thread, and the samples that they hold.
use Rattle.std.specs.Prelude.{option_map, slice_index_or, if◌then◌else◌}
use Rattle.std.specs.Bool.{IsTrue}
use Rattle.std.proofs.Common.{◌≡◌, ◌≢◌, ◌∙◌, refl, sym, ap, ap₂, subst, nat_eq, to_z, of_z, w64, ℕ, ◌+◌, ◌-◌, ◌*◌, ◌/◌, ◌%◌, ◌^◌, ◌≤◌, ◌<◌, Bool, true, false, ℤ, pos, ◌+ℤ◌, ◌-ℤ◌, ◌≤ℤ◌, ◌<ℤ◌, unsigned_abs, ⊎_elim, List, [], length, set, take, drop, get_or, Option, Some, None, get_or-set_other, get_or-set_same, below_more, arith}
use Rattle.std.proofs.Math.Nat.{add-mul-mod_self_right, mul-mod_left}
use Rattle.std.proofs.lemmas.Bool.{cases_lt}
use Rattle.std.proofs.lemmas.Bool.Decides.{nat_tests}
use Rattle.std.proofs.lemmas.Int.{ints, int_rem_euclid_is}
use Rattle.std.proofs.lemmas.List.{drop-take, drop-drop, take-take, drop_at, length-take-le}
use Rattle.std.proofs.lemmas.Nat.{mul-le, row_fits, div-add-mod', mod_below, div_below}
use Rattle.std.proofs.lemmas.Slice.{take-put_mid, take-put_mid_below}
use borrow.Rule.Slice.PartMut.{put_mid}
use Rattle.vdif_frame.specs.Shape.{IsShape, head_bytes, chans_of, samples_per_frame}
use Rattle.vdif_frame.proofs.Samples.{samples_per_frame_most}
use Rattle.sample_unpack.specs.Level.{level_at}
use Rattle.corr_model.specs.Slots.{Slot}
use Rattle.corr_model.specs.Sample.{Timing}
use Rattle.corr_model.specs.Frames.{frame_slot}
use Rattle.frame_index.specs.declared.frame.SlotAt.{SlotAt}
use Rattle.frame_index.specs.Placed.{place_in_second, sample_in_frame}
use Rattle.frame_index.specs.Indexed.{IndexFields, place_in}
use Rattle.frame_index.specs.Recording.{Shelved, AreOnShelf, bytes_on, slots_on}
use Rattle.frame_index.proofs.FrameLaw.{FillsSeconds}
use Rattle.station_stream.specs.declared.chan.StationChan.{StationChan}
use Rattle.station_stream.specs.declared.part.StationPart.{StationPart}
use Rattle.station_stream.specs.declared.place.FramePlace.{FramePlace}
use Rattle.station_stream.specs.declared.thread_frames.ThreadFrames.{ThreadFrames}
use Rattle.station_stream.specs.Part.{IsIndexed, timing_of, chan_sample}
use Rattle.station_stream.specs.Place.{frame_place}
use Rattle.station_stream.specs.Standing.{StandsAt, bytes_at}
use Rattle.station_stream.specs.FrameSlots.{slot_of, slot_if, place_from, slot_at, IsRun, AreSlots}
use Rattle.station_stream.specs.ThreadFrames.{Reach, level_in_frames}
use Rattle.station_stream.proofs.PlaceLemmas.{frame_place-in}
use Rattle.station_stream.proofs.FrameSamples.{no_slot, slot_at_place, stands_indexed, sample_of-some, sample_of-none, fills_seconds}

-- ---- the slot of a frame

-- where the index has no place for a frame, no slot holds it
pub slot_of-none : (told : Shelved) (part : StationPart) (index : IndexFields) (thread : ℕ) (place : FramePlace)
    → place_in index thread place.second place.number ≡ None
    → IsIndexed told part index
    → slot_of told part thread place ≡ None
slot_of-none told part index thread place none indexed =
    ap (option_map (λ (slot : Slot). slot.bytes)) (no_slot part.shape (slots_on told part.shape part.files.now) index thread place.second place.number indexed.1 none)

-- where it has one, the bytes from there on are the slot's
pub slot_of-some : (told : Shelved) (part : StationPart) (index : IndexFields) (thread : ℕ) (place : FramePlace) (at : SlotAt)
    → place_in index thread place.second place.number ≡ Some at
    → IsIndexed told part index
    → slot_of told part thread place ≡ Some (bytes_at (bytes_on told part.files.now) at part.shape.frame_bytes)
slot_of-some told part index thread place at found indexed =
    let held = slot_at_place part.shape (bytes_on told part.files.now) index thread place.second place.number at indexed.1 found in
    ap (option_map (λ (slot : Slot). slot.bytes)) held.1.found ∙ ap (λ (b : List ℕ). Some b) held.1.bytes

-- a place in a file
abbrev placed : ℕ → ℕ → SlotAt
placed file n = record { file = file; at = n }

-- a run of one slot
pub IsRun-one : (index : IndexFields) (part : StationPart) (thread : ℕ) (start : ℤ) (i : ℕ) (at : SlotAt) (size : ℕ)
    → slot_at index part thread start i ≡ Some at → IsRun index part thread start i at size 1
IsRun-one index part thread start i at size found k below =
    let first : k ≡ 0 = omega arith in
    let here : i + k ≡ i = omega arith in
    let none : k * size ≡ 0 = ap (λ (m : ℕ). m * size) first ∙ zero-mul size in
    let same : at.at ≡ at.at + k * size = omega arith in
    ap (λ (m : ℕ). slot_at index part thread start m) here ∙ found ∙ ap (λ (n : ℕ). Some (placed at.file n)) same
  where
    zero-mul : (m : ℕ) → 0 * m ≡ 0
    zero-mul m = grind arith

-- a slot that stands so many bytes behind a place
pub stands-ahead : (slot : Option SlotAt) (found at : SlotAt) (ahead : ℕ) → slot ≡ Some found → found.file ≡ at.file → at.at ≤ found.at
    → IsTrue (nat_eq (found.at - at.at) ahead)
    → slot ≡ Some (record { file = at.file; at = at.at + ahead })
stands-ahead slot found at ahead is file low same =
    let behind : found.at - at.at ≡ ahead = grind (arith, nat_tests) in
    let place : found.at ≡ at.at + ahead = omega arith in
    is ∙ ap₂ (λ (f n : ℕ). Some (placed f n)) file place

-- room for the slots of a run
pub run_fits : (i n size wide count room : ℕ) → size ≡ wide → i + n ≤ count → room ≡ count * wide → i * size + n * size ≤ room
run_fits i n size wide count room same within is =
    subst (λ (m : ℕ). i * m + n * m ≤ room) (sym same)
    (let sum : i * wide + n * wide ≡ (i + n) * wide = grind arith in
    omega (arith, sum, mul-le (i + n) wide count wide within (omega arith), is))

-- one of slots that follow one another in a file
run_slot : (size n k at : ℕ) (file : List ℕ) → k < n → take size (drop (at + k * size) file) ≡ take size (drop (k * size) (take (n * size) (drop at file)))
run_slot size n k at file below =
    ap (take size) (sym (drop-drop (k * size) at file))
    ∙ sym (drop-take (k * size) size (drop at file))
    ∙ ap (drop (k * size)) (sym (take-take (k * size + size) (n * size) (drop at file) (row_fits k size n size below (omega arith))))
    ∙ drop-take (k * size) size (take (n * size) (drop at file))

-- the slots of a run that was read
pub slot_of-run : (told : Shelved) (part : StationPart) (index : IndexFields) (thread : ℕ) (start : ℤ) (i n : ℕ) (at : SlotAt) (old new : List ℕ) (there : Bool)
    → IsRun index part thread start i at part.shape.frame_bytes n
    → 0 < n
    → length old ≡ n * part.shape.frame_bytes
    → (AreOnShelf part.files.now told → StandsAt (bytes_on told part.files.now) at (length old) → IsTrue there × (new ≡ bytes_at (bytes_on told part.files.now) at (length old)))
    → IsIndexed told part index
    → (k : ℕ) → k < n → slot_of told part thread (place_from part start (i + k)) ≡ slot_if there (take part.shape.frame_bytes (drop (k * part.shape.frame_bytes) new))
slot_of-run told part index thread start i n at old new there run some long reads indexed k below =
    let wide : ℕ = part.shape.frame_bytes in
    let files : List (List ℕ) = bytes_on told part.files.now in
    let file : List ℕ = get_or files at.file [] in
    let end = stands_indexed told part index thread (place_from part start (i + (n - 1))).second (place_from part start (i + (n - 1))).number
    (record { file = at.file; at = at.at + (n - 1) * wide }) (run (n - 1) (omega arith)) indexed in
    let count : (n - 1) + 1 ≡ n = omega arith in
    let rows : (n - 1) * wide + wide ≡ n * wide = row_more (n - 1) wide ∙ ap (λ (m : ℕ). m * wide) count in
    let stands : StandsAt files at (n * wide) = record { file = end.file; whole = omega (arith, end.whole, rows) } in
    let read = reads indexed.0 (subst (λ (m : ℕ). StandsAt files at m) (sym long) stands) in
    slot_of-some told part index thread (place_from part start (i + k)) (record { file = at.file; at = at.at + k * wide }) (run k below) indexed
    ∙ ap (λ (b : List ℕ). Some b) (run_slot wide n k at.at file below)
    ∙ ap (λ (b : List ℕ). Some (take wide (drop (k * wide) b))) (sym (read.1 ∙ ap (λ (m : ℕ). bytes_at files at m) long))
    ∙ ap (λ (b : Bool). slot_if b (take wide (drop (k * wide) new))) (sym read.0)
  where
    row_more : (m wide : ℕ) → m * wide + wide ≡ (m + 1) * wide
    row_more m wide = grind arith

-- ---- the samples of a slot

-- what was found, from its bytes
found-some : (found : Option Slot) (bytes : List ℕ) → option_map (λ (slot : Slot). slot.bytes) found ≡ Some bytes → (slot : Slot) × (found ≡ Some slot) × (slot.bytes ≡ bytes)
found-some None bytes e = cc
found-some (Some slot) bytes e = (slot, refl, cc)

found-none : (found : Option Slot) → option_map (λ (slot : Slot). slot.bytes) found ≡ None → found ≡ None
found-none None e = refl
found-none (Some slot) e = cc

-- the level at a sample of a slot, none where there is no slot
abbrev level_of_slot : StationPart → Bool → List ℕ → ℕ → ℕ → Option ℤ
level_of_slot part there bytes index k =
    if there then Some (level_at (drop (head_bytes part.shape.legacy) bytes) part.shape.bits (chans_of part.shape) index k) else None

-- a sample is read of the slot of its frame
chan_sample-slot : (told : Shelved) (part : StationPart) (chan : StationChan) (p : ℤ) (there : Bool) (bytes : List ℕ) → IsShape part.shape
    → slot_of told part chan.thread (frame_place (timing_of part) p) ≡ slot_if there bytes
    → chan_sample told part chan p ≡ level_of_slot part there bytes chan.index (sample_in_frame (timing_of part) p)
chan_sample-slot told part chan p true bytes shape is =
    let t : Timing = timing_of part in
    let place : FramePlace = frame_place t p in
    let named = found-some (frame_slot part.shape (slots_on told part.shape part.files.now) chan.thread place.second place.number) bytes is in
    sample_of-some t (record { thread = chan.thread; index = chan.index }) (bytes_on told part.files.now) p named.0 (fills_seconds part shape) named.1
    ∙ ap (λ (b : List ℕ). level_of_slot part true b chan.index (sample_in_frame t p)) named.2
chan_sample-slot told part chan p false bytes shape is =
    let t : Timing = timing_of part in
    let place : FramePlace = frame_place t p in
    sample_of-none t (record { thread = chan.thread; index = chan.index }) (bytes_on told part.files.now) p (fills_seconds part shape)
    (found-none (frame_slot part.shape (slots_on told part.shape part.files.now) chan.thread place.second place.number) is)

-- ---- whole frames behind a frame

-- what is left behind whole frames, of the samples that are left behind whole seconds
rest_of_rest : (m rate frames spf : ℕ) → rate ≡ frames * spf → m % rate % spf ≡ m % spf
rest_of_rest m rate frames spf whole =
    let seconds : m / rate * rate ≡ m / rate * frames * spf = grind (arith, whole) in
    let parts : m % rate + m / rate * frames * spf ≡ m = omega (arith, div-add-mod' m rate, seconds) in
    sym (add-mul-mod_self_right (m % rate) (m / rate * frames) spf) ∙ ap (λ (n : ℕ). n % spf) parts

-- a sample's number in its frame, told by whole seconds and a natural number of samples
sample_in_frame-natural : (t : Timing) (p : ℤ) (k m : ℕ) → FillsSeconds t → (p +ℤ pos (k * t.rate)) ≡ pos m → sample_in_frame t p ≡ m % samples_per_frame t.shape
sample_in_frame-natural t p k m fills is =
    ap (λ (z : ℤ). unsigned_abs z % samples_per_frame t.shape) (int_rem_euclid_is p (pos t.rate) t.rate k m fills.rated refl is)
    ∙ rest_of_rest m t.rate t.shape.frames (samples_per_frame t.shape) fills.whole

natural : (p : ℤ) (n : ℕ) → unsigned_abs p ≤ n → (p +ℤ pos n) ≡ pos (unsigned_abs (p +ℤ pos n))
natural p n h = omega (arith, ints)

next_is : (p : ℤ) (s n m rows more total : ℕ) → (p +ℤ pos n) ≡ pos m → rows + s ≡ m → rows + more ≡ total → (((p -ℤ pos s) +ℤ pos more) +ℤ pos n) ≡ pos total
next_is p s n m rows more total e f g = omega (arith, ints)

-- a frame begins whole frames behind the begin of another
frame_begins : (t : Timing) (p : ℤ) (i : ℕ) → FillsSeconds t
    → sample_in_frame t ((p -ℤ pos (sample_in_frame t p)) +ℤ pos (i * samples_per_frame t.shape)) ≡ 0
frame_begins t p i fills =
    let spf : ℕ = samples_per_frame t.shape in
    let seconds : ℕ = unsigned_abs p in
    let m : ℕ = unsigned_abs (p +ℤ pos (seconds * t.rate)) in
    let enough : seconds * 1 ≤ seconds * t.rate = mul-le seconds 1 seconds t.rate (omega arith) (omega (arith, fills.rated)) in
    let here : (p +ℤ pos (seconds * t.rate)) ≡ pos m = natural p (seconds * t.rate) (omega (arith, enough)) in
    let rest : sample_in_frame t p ≡ m % spf = sample_in_frame-natural t p seconds m fills here in
    let rows : m / spf * spf + sample_in_frame t p ≡ m = omega (arith, div-add-mod' m spf, rest) in
    let sum : m / spf * spf + i * spf ≡ (m / spf + i) * spf = grind arith in
    sample_in_frame-natural t ((p -ℤ pos (sample_in_frame t p)) +ℤ pos (i * spf)) seconds ((m / spf + i) * spf) fills
    (next_is p (sample_in_frame t p) (seconds * t.rate) m (m / spf * spf) (i * spf) ((m / spf + i) * spf) here rows sum)
    ∙ mul-mod_left (m / spf + i) spf

-- samples behind the begin of a frame: whole frames and the number in the last one
lies_in : (start x p : ℤ) (k rows rest size s : ℕ) → start ≤ℤ p → x ≡ (start +ℤ pos rows) → k ≡ unsigned_abs (p -ℤ start) → rows + rest ≡ k → rest < size → s ≡ 0
    → ((x -ℤ pos s) ≤ℤ p) × (p <ℤ ((x -ℤ pos s) +ℤ pos size))
lies_in start x p k rows rest size s low e f g h z = (omega (arith, ints), omega (arith, ints))

number_is : (start x p : ℤ) (k rows rest s r : ℕ) → start ≤ℤ p → x ≡ (start +ℤ pos rows) → k ≡ unsigned_abs (p -ℤ start) → rows + rest ≡ k → s ≡ 0
    → (x -ℤ pos s) ≡ (p -ℤ pos r) → r ≡ rest
number_is start x p k rows rest s r low e f g z same = omega (arith, ints)

-- a sample's frame, and its number in that frame, told by the samples from the begin of an earlier frame on
place_from-sample : (part : StationPart) (first start p : ℤ) → IsShape part.shape
    → start ≡ (first -ℤ pos (sample_in_frame (timing_of part) first)) → start ≤ℤ p
    → (place_from part start (unsigned_abs (p -ℤ start) / samples_per_frame part.shape) ≡ frame_place (timing_of part) p)
    × (sample_in_frame (timing_of part) p ≡ unsigned_abs (p -ℤ start) % samples_per_frame part.shape)
place_from-sample part first start p shape begin low =
    let t : Timing = timing_of part in
    let spf : ℕ = samples_per_frame part.shape in
    let fills = fills_seconds part shape in
    let k : ℕ = unsigned_abs (p -ℤ start) in
    let x : ℤ = start +ℤ pos (k / spf * spf) in
    let zero : sample_in_frame t x ≡ 0 =
    ap (λ (z : ℤ). sample_in_frame t (z +ℤ pos (k / spf * spf))) begin ∙ frame_begins t first (k / spf) fills in
    let parts : k / spf * spf + k % spf ≡ k = div-add-mod' k spf in
    let inside = lies_in start x p k (k / spf * spf) (k % spf) spf (sample_in_frame t x) low refl refl parts (mod_below k spf fills.some) zero in
    let same : frame_place t x ≡ frame_place t p = frame_place-in t x p fills inside.0 inside.1 in
    (same, number_is start x p k (k / spf * spf) (k % spf) (sample_in_frame t x) (sample_in_frame t p) low refl refl parts zero (ap (λ (at : FramePlace). at.start) same))

-- where it begins, as the program works it out
begin_is : (start : ℤ) (n m : ℕ) → unsigned_abs start < 2 ^ 61 → unsigned_abs (start +ℤ pos n) < 2 ^ 61 → m ≡ n
    → to_z w64 (of_z w64 (to_z w64 (of_z w64 start) +ℤ to_z w64 m)) ≡ (start +ℤ pos n)
begin_is start n m near near_frame same = omega (arith, ints)

pub place_from-is : (part : StationPart) (start : ℤ) (i size : ℕ) (place : FramePlace)
    → unsigned_abs start < 2 ^ 61 → unsigned_abs (start +ℤ pos (i * samples_per_frame part.shape)) < 2 ^ 61
    → size ≡ samples_per_frame part.shape
    → place ≡ frame_place (timing_of part) (to_z w64 (of_z w64 (to_z w64 (of_z w64 start) +ℤ to_z w64 (i * size))))
    → place ≡ place_from part start i
place_from-is part start i size place near near_frame same is =
    is ∙ ap (λ (p : ℤ). frame_place (timing_of part) p)
    (begin_is start (i * samples_per_frame part.shape) (i * size) near near_frame (ap (λ (n : ℕ). i * n) same))

-- ---- the samples of the frames of a thread

below_count : (start p last : ℤ) (total : ℕ) → start ≤ℤ p → p <ℤ last → last ≤ℤ (start +ℤ pos total) → unsigned_abs (p -ℤ start) < total
below_count start p last total low under reach = omega (arith, ints)

at_or_behind : (start first p : ℤ) → start ≤ℤ first → first ≤ℤ p → start ≤ℤ p
at_or_behind start first p low high = omega (arith, ints)

-- the samples are those of the slots
pub chan_sample-frames : (told : Shelved) (part : StationPart) (chan : StationChan) (first last p : ℤ) (f : ThreadFrames) → IsShape part.shape
    → f.start ≡ (first -ℤ pos (sample_in_frame (timing_of part) first))
    → Reach part.shape first last f
    → AreSlots told part chan.thread f.start (length f.there.items) f.there.items f.bytes.items
    → first ≤ℤ p → p <ℤ last
    → chan_sample told part chan p ≡ level_in_frames part.shape f chan.index p
chan_sample-frames told part chan first last p f shape begin reach slots low under =
    let spf : ℕ = samples_per_frame part.shape in
    let k : ℕ = unsigned_abs (p -ℤ f.start) in
    let behind : f.start ≤ℤ p = at_or_behind f.start first p reach.begins low in
    let lies = place_from-sample part first f.start p shape begin behind in
    let below : k / spf < length f.there.items =
    div_below k spf (length f.there.items) (fills_seconds part shape).some (below_count f.start p last (length f.there.items * spf) behind under reach.ends) in
    let there : Bool = slice_index_or f.there.items (k / spf) false in
    let bytes : List ℕ = take part.shape.frame_bytes (drop (k / spf * part.shape.frame_bytes) f.bytes.items) in
    chan_sample-slot told part chan p there bytes shape (ap (slot_of told part chan.thread) (sym lies.0) ∙ slots (k / spf) below)
    ∙ ap (λ (n : ℕ). level_of_slot part there bytes chan.index n) lies.1

-- the first frame begins with that of a sample, at the sample `start` as the program keeps it
pub record BeginsAt (part : StationPart) (first start : ℤ) : Type 0 where
  pub is : to_z w64 (of_z w64 start) ≡ (first -ℤ pos (sample_in_frame (timing_of part) first))
  pub near : unsigned_abs (to_z w64 (of_z w64 start)) < 2 ^ 61
  pub low : to_z w64 (of_z w64 start) ≤ℤ first

begin_kept : (start first : ℤ) (s : ℕ) → start ≡ (first -ℤ pos s) → unsigned_abs first < 2 ^ 60 → s < 2 ^ 32 → to_z w64 (of_z w64 start) ≡ (first -ℤ pos s)
begin_kept start first s e near small = omega (arith, ints)

begin_near : (start first : ℤ) (s : ℕ) → start ≡ (first -ℤ pos s) → unsigned_abs first < 2 ^ 60 → s < 2 ^ 32 → unsigned_abs start < 2 ^ 61
begin_near start first s e near small = omega (arith, ints)

begin_low : (start first : ℤ) (s : ℕ) → start ≡ (first -ℤ pos s) → start ≤ℤ first
begin_low start first s e = omega (arith, ints)

passed_on : (p : ℤ) → unsigned_abs p < 2 ^ 60 → to_z w64 (of_z w64 p) ≡ p
passed_on p near = omega (arith, ints)

pub BeginsAt-place : (part : StationPart) (first : ℤ) (place : FramePlace) → IsShape part.shape → unsigned_abs first < 2 ^ 60
    → place ≡ frame_place (timing_of part) (to_z w64 (of_z w64 first))
    → BeginsAt part first place.start
BeginsAt-place part first place shape near is_passed =
    let t : Timing = timing_of part in
    let s : ℕ = sample_in_frame t first in
    let below : s < samples_per_frame part.shape = mod_below (place_in_second t first) (samples_per_frame part.shape) (fills_seconds part shape).some in
    let small : s < 2 ^ 32 = omega (arith, below, samples_per_frame_most part.shape shape) in
    let is : place ≡ frame_place t first = is_passed ∙ ap (λ (x : ℤ). frame_place t x) (passed_on first near) in
    let kept : to_z w64 (of_z w64 place.start) ≡ (first -ℤ pos s) = begin_kept place.start first s (ap (λ (x : FramePlace). x.start) is) near small in
    record {
      is = kept;
      near = begin_near (to_z w64 (of_z w64 place.start)) first s kept near small;
      low = begin_low (to_z w64 (of_z w64 place.start)) first s kept;
    }

-- as many frames as reach up to the last sample
begin_wider : (start : ℤ) → unsigned_abs start < 2 ^ 61 → unsigned_abs start < 2 ^ 62
begin_wider start near = omega (arith, ints)

reach_is : (start last : ℤ) (n m : ℕ) → unsigned_abs last < 2 ^ 60 → n ≡ m → to_z w64 (of_z w64 last) ≤ℤ (start +ℤ pos n) → last ≤ℤ (start +ℤ pos m)
reach_is start last n m near e reach = omega (arith, ints)

pub Reach-read : (part : StationPart) (first last start : ℤ) (count size : ℕ) (f : ThreadFrames) → BeginsAt part first start
    → f.start ≡ to_z w64 (of_z w64 start)
    → length f.there.items ≡ count
    → length f.bytes.items ≡ count * part.shape.frame_bytes
    → size ≡ samples_per_frame part.shape
    → unsigned_abs last < 2 ^ 60
    → to_z w64 (of_z w64 last) ≤ℤ (to_z w64 (of_z w64 start) +ℤ pos (count * size))
    → Reach part.shape first last f
Reach-read part first last start count size f begins is long bytes_long size_is near reach =
    let rows : count * size ≡ length f.there.items * samples_per_frame part.shape = ap₂ (λ (a b : ℕ). a * b) (sym long) size_is in
    record {
      begins = subst (λ (z : ℤ). z ≤ℤ first) (sym is) begins.low;
      near = subst (λ (z : ℤ). unsigned_abs z < 2 ^ 62) (sym is) (begin_wider (to_z w64 (of_z w64 start)) begins.near);
      ends = subst (λ (z : ℤ). last ≤ℤ (z +ℤ pos (length f.there.items * samples_per_frame part.shape))) (sym is)
          (reach_is (to_z w64 (of_z w64 start)) last (count * size) (length f.there.items * samples_per_frame part.shape) near rows reach);
      bytes = bytes_long ∙ ap (λ (n : ℕ). n * part.shape.frame_bytes) (sym long);
    }

-- the samples of the frames that were read
pub chan_sample-read : (told : Shelved) (part : StationPart) (chan : StationChan) (first last p start : ℤ) (thread : ℕ) (f : ThreadFrames) (there : List Bool) (bytes : List ℕ)
    → IsShape part.shape → BeginsAt part first start → f.start ≡ to_z w64 (of_z w64 start)
    → f.there.items ≡ there → f.bytes.items ≡ bytes
    → Reach part.shape first last f
    → AreSlots told part thread (to_z w64 (of_z w64 start)) (length there) there bytes
    → chan.thread ≡ thread → first ≤ℤ p → p <ℤ last
    → chan_sample told part chan p ≡ level_in_frames part.shape f chan.index p
chan_sample-read told part chan first last p start thread f there bytes shape begins is there_is bytes_is reach slots same low under =
    chan_sample-frames told part chan first last p f shape (is ∙ begins.is) reach
    (subst (λ (n : ℕ). AreSlots told part n f.start (length f.there.items) f.there.items f.bytes.items) (sym same)
    (subst (λ (z : ℤ). AreSlots told part thread z (length f.there.items) f.there.items f.bytes.items) (sym is)
    (subst (λ (b : List Bool). AreSlots told part thread (to_z w64 (of_z w64 start)) (length b) b f.bytes.items) (sym there_is)
    (subst (λ (b : List ℕ). AreSlots told part thread (to_z w64 (of_z w64 start)) (length there) there b) (sym bytes_is) slots))))
    low under

-- ---- slots that are read one after another

-- bytes before those that were written
before-put_mid : (a k n size : ℕ) (xs ys : List ℕ) → n + size ≤ a → a ≤ length xs → take size (drop n (put_mid a k xs ys)) ≡ take size (drop n xs)
before-put_mid a k n size xs ys low within =
    sym (drop-take n size (put_mid a k xs ys))
    ∙ ap (drop n) (take-put_mid_below a k xs ys (n + size) low within)
    ∙ drop-take n size xs

-- and those
at-put_mid : (a k : ℕ) (xs ys : List ℕ) → a ≤ length xs → take (length ys) (drop a (put_mid a k xs ys)) ≡ ys
at-put_mid a k xs ys within =
    sym (drop-take a (length ys) (put_mid a k xs ys))
    ∙ ap (drop a) (take-put_mid a k xs ys (a + length ys) refl within)
    ∙ drop_at (take a xs) ys a (length-take-le a xs within)

-- some of those
inside-put_mid : (a k b size : ℕ) (xs ys : List ℕ) → b + size ≤ length ys → a ≤ length xs → take size (drop (a + b) (put_mid a k xs ys)) ≡ take size (drop b ys)
inside-put_mid a k b size xs ys low within =
    ap (take size) (sym (drop-drop b a (put_mid a k xs ys)))
    ∙ sym (drop-take b size (drop a (put_mid a k xs ys)))
    ∙ ap (drop b) (sym (take-take (b + size) (length ys) (drop a (put_mid a k xs ys)) low) ∙ ap (take (b + size)) (at-put_mid a k xs ys within))
    ∙ drop-take b size ys

-- one frame more, which no slot holds
pub AreSlots-none : (told : Shelved) (part : StationPart) (thread : ℕ) (start : ℤ) (i : ℕ) (there : List Bool) (bytes : List ℕ)
    → i < length there
    → slot_of told part thread (place_from part start i) ≡ None
    → AreSlots told part thread start i there bytes
    → AreSlots told part thread start (i + 1) (set there i false) bytes
AreSlots-none told part thread start i there bytes within none slots =
    below_more _ i
    (λ j below.
    let other : j ≢ i = omega arith in
    slots j below
    ∙ ap (λ (b : Bool). slot_if b (take part.shape.frame_bytes (drop (j * part.shape.frame_bytes) bytes))) (sym (get_or-set_other there i j false false other)))
    (none ∙ ap (λ (b : Bool). slot_if b (take part.shape.frame_bytes (drop (i * part.shape.frame_bytes) bytes))) (sym (get_or-set_same there i false false within)))

-- the frames of a run more
pub AreSlots-run : (told : Shelved) (part : StationPart) (thread : ℕ) (start : ℤ) (i n k size : ℕ) (is_there : Bool) (there marked : List Bool) (bytes run : List ℕ)
    → size ≡ part.shape.frame_bytes
    → i + n ≤ length there
    → length bytes ≡ length there * part.shape.frame_bytes
    → length run ≡ n * part.shape.frame_bytes
    → ((j : ℕ) → j < i → get_or marked j false ≡ get_or there j false)
    → ((j : ℕ) → j < n → get_or marked (i + j) false ≡ is_there)
    → ((j : ℕ) → j < n → slot_of told part thread (place_from part start (i + j)) ≡ slot_if is_there (take part.shape.frame_bytes (drop (j * part.shape.frame_bytes) run)))
    → AreSlots told part thread start i there bytes
    → AreSlots told part thread start (i + n) marked (put_mid (i * size) k bytes run)
AreSlots-run told part thread start i n k size is_there there marked bytes run same within room long before marks holds slots =
    subst (λ (m : ℕ). AreSlots told part thread start (i + n) marked (put_mid (i * m) k bytes run)) (sym same)
    (λ j below. ⊎_elim
    (λ (sooner : j < i).
    slots j sooner
    ∙ ap (λ (b : Bool). slot_if b (take wide (drop (j * wide) bytes))) (sym (before j sooner))
    ∙ ap (λ (b : List ℕ). slot_if (get_or marked j false) b)
    (sym (before-put_mid (i * wide) k (j * wide) wide bytes run (row_fits j wide i wide sooner (omega arith)) fits)))
    (λ (no_sooner : i ≤ j).
    let here : i + (j - i) ≡ j = omega arith in
    subst (λ (m : ℕ). slot_of told part thread (place_from part start m) ≡ slot_if (get_or marked m false) (take wide (drop (m * wide) (put_mid (i * wide) k bytes run)))) here
    (at_run (j - i) (omega arith)))
    (cases_lt j i))
  where
    wide : ℕ
    wide = part.shape.frame_bytes

    fits : i * part.shape.frame_bytes ≤ length bytes
    fits = omega (arith, mul-le i part.shape.frame_bytes (length there) part.shape.frame_bytes (omega arith) (omega arith), room)

    at_run : (m : ℕ) → m < n
        → slot_of told part thread (place_from part start (i + m)) ≡ slot_if (get_or marked (i + m) false) (take wide (drop ((i + m) * wide) (put_mid (i * wide) k bytes run)))
    at_run m below =
        let sum : i * wide + m * wide ≡ (i + m) * wide = grind arith in
        holds m below
        ∙ ap (λ (b : Bool). slot_if b (take wide (drop (m * wide) run))) (sym (marks m below))
        ∙ ap (λ (b : List ℕ). slot_if (get_or marked (i + m) false) b)
        (sym (inside-put_mid (i * wide) k (m * wide) wide bytes run (omega (arith, row_fits m wide n wide below (omega arith), long)) fits)
        ∙ ap (λ (z : ℕ). take wide (drop z (put_mid (i * wide) k bytes run))) sum)

-- all that there is room for
pub AreSlots-all : (told : Shelved) (part : StationPart) (thread : ℕ) (start passed : ℤ) (i : ℕ) (there : List Bool) (bytes : List ℕ)
    → passed ≡ start → i ≡ length there
    → AreSlots told part thread passed i there bytes
    → AreSlots told part thread start (length there) there bytes
AreSlots-all told part thread start passed i there bytes e f slots =
    subst (λ (z : ℤ). AreSlots told part thread z (length there) there bytes) e
    (subst (λ (n : ℕ). AreSlots told part thread passed n there bytes) f slots)
