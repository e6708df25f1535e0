-- The samples of a frame are those in the slot that holds it.
use Rattle.std.specs.Prelude.{◌==◌, not, option_map, map, cond}
use Rattle.std.specs.List.{All, find}
use Rattle.std.proofs.Common.{◌≡◌, ◌∙◌, refl, sym, ap, subst, ℕ, suc, ◌+◌, ◌*◌, ◌/◌, ◌≤◌, ◌<◌, Bool, true, false, ℤ, pos, ◌-ℤ◌, unsigned_abs, List, [], ◌∷◌, ◌++◌, length, take, drop, get_or, Option, Some, None, arith, zero-add}
use Rattle.std.proofs.Math.Seq.{get_or-append_seam}
use Rattle.std.proofs.lemmas.Bool.Decides.{Decides-eqb, Decides-int_eq}
use Rattle.std.proofs.lemmas.List.{append_assoc, length-append}
use Rattle.std.proofs.lemmas.List.Elements.{All-append}
use Rattle.std.proofs.lemmas.List.FromFn.{length-map-range_with_len, get_or-map-range_with_len}
use Rattle.std.proofs.lemmas.Nat.{div-add-mod'}
use Rattle.vdif_frame.specs.Header.{fields_of}
use Rattle.vdif_frame.specs.Shape.{ShapeFields, IsShape, head_bytes, chans_of, samples_per_frame}
use Rattle.vdif_frame.proofs.Samples.{samples_per_frame_some}
use Rattle.sample_unpack.specs.Level.{level_at}
use Rattle.corr_model.specs.Slots.{Slot, placed_slot, placed_in, placed_from, station_slots}
use Rattle.corr_model.specs.Sample.{Timing, Recorded, agrees_with, slot_place, counts_for, level_in, sample_of}
use Rattle.corr_model.specs.Frames.{second_in, holds_frame, frame_slot, counted_slot}
use Rattle.corr_model.proofs.SlotLemmas.{slot_within}
use Rattle.frame_index.specs.declared.frame.SlotAt.{SlotAt}
use Rattle.frame_index.specs.Placed.{second_of_place, number_of_place, sample_in_frame}
use Rattle.frame_index.specs.Indexed.{IndexFields, IsIndexOf, place_in, place_of_slot}
use Rattle.frame_index.specs.Recording.{Shelved, bytes_on}
use Rattle.frame_index.proofs.FrameLaw.{FillsSeconds, counted_slot-frame_slot, floor_parts, both-first, both-second}
use Rattle.station_stream.specs.declared.part.StationPart.{StationPart}
use Rattle.station_stream.specs.Part.{IsIndexed, timing_of}
use Rattle.station_stream.specs.Standing.{StandsAt, bytes_at}
use Rattle.station_stream.proofs.PlaceLemmas.{start_of_frame, place_back}

-- ---- a search through slots

-- what holds of the first slot if it passes, and of what is found behind it, holds of what is found
found-step : (P : Slot → Type 0) (b : Bool) (x slot : Slot) (rest : Option Slot) → (b ≡ true → P x) → (rest ≡ Some slot → P slot) → cond b (Some x) rest ≡ Some slot → P slot
found-step P true x slot rest here later found =
    let same : x ≡ slot = cc in subst P same (here refl)
found-step P false x slot rest here later found = later found

-- what is found passes the test, and is one of the slots
found-holds : (p : Slot → Bool) (slots : List Slot) (slot : Slot) → find p slots ≡ Some slot → p slot ≡ true
found-holds p [] slot e = cc
found-holds p (x ∷ slots) slot e = found-step (λ (s : Slot). p s ≡ true) (p x) x slot (find p slots) (λ is. is) (found-holds p slots slot) e

found-among : (P : Slot → Type 0) (p : Slot → Bool) (slots : List Slot) (slot : Slot) → All P slots → find p slots ≡ Some slot → P slot
found-among P p [] slot all e = cc
found-among P p (x ∷ slots) slot all e =
    found-step P (p x) x slot (find p slots) (λ is. all 0 x (omega arith)) (found-among P p slots slot (λ k d h. all (suc k) d (omega arith))) e

-- a search by the slots' bytes
find-bytes : (p : List ℕ → Bool) (slots : List Slot)
    → find p (map (λ (slot : Slot). slot.bytes) slots) ≡ option_map (λ (slot : Slot). slot.bytes) (find (λ (slot : Slot). p slot.bytes) slots)
find-bytes p [] = refl
find-bytes p (x ∷ slots) =
    ap (λ (o : Option (List ℕ)). cond (p x.bytes) (Some x.bytes) o) (find-bytes p slots) ∙ choice (p x.bytes) (find (λ (slot : Slot). p slot.bytes) slots)
  where
    choice : (b : Bool) (rest : Option Slot)
        → cond b (Some x.bytes) (option_map (λ (slot : Slot). slot.bytes) rest) ≡ option_map (λ (slot : Slot). slot.bytes) (cond b (Some x) rest)
    choice true rest = refl
    choice false rest = refl

-- ---- the sample that a slot holds

-- what is read of the bytes that are found
map-some : (f : List ℕ → ℤ) (found : Option Slot) → option_map f (option_map (λ (slot : Slot). slot.bytes) found) ≡ option_map (λ (slot : Slot). f slot.bytes) found
map-some f None = refl
map-some f (Some slot) = refl

-- a sample is read of the slot that holds its frame
sample_of-frame_slot : (t : Timing) (r : Recorded) (files : List (List ℕ)) (p : ℤ) → FillsSeconds t
    → sample_of t r files p
    ≡ option_map (λ (slot : Slot). level_in t r.index p slot.bytes) (frame_slot t.shape (station_slots t.shape.frame_bytes files) r.thread (second_of_place t p) (number_of_place t p))
sample_of-frame_slot t r files p fills =
    let slots : List Slot = station_slots t.shape.frame_bytes files in
    ap (option_map (level_in t r.index p)) (find-bytes (counts_for t r.thread p) slots)
    ∙ map-some (level_in t r.index p) (counted_slot t r.thread slots p)
    ∙ ap (option_map (λ (slot : Slot). level_in t r.index p slot.bytes)) (counted_slot-frame_slot t r.thread p slots fills)

-- a slot that holds a frame begins with the frame's first sample
slot_place-frame : (t : Timing) (thread : ℕ) (p : ℤ) (slot : List ℕ) → FillsSeconds t
    → holds_frame t.shape thread (second_of_place t p) (number_of_place t p) slot ≡ true
    → slot_place t slot ≡ (p -ℤ pos (sample_in_frame t p))
slot_place-frame t thread p slot fills holds =
    let tests = both-second ((fields_of slot).thread == thread) _ (both-second (not (fields_of slot).invalid) _ (both-second (agrees_with t.shape slot) _ holds)) in
    start_of_frame (second_in slot) t.start _ p (fields_of slot).frame (number_of_place t p) (sample_in_frame t p) _ t.rate (samples_per_frame t.shape)
    ((Decides-int_eq (second_in slot) (second_of_place t p)).0 (both-first _ _ tests))
    ((Decides-eqb (fields_of slot).frame (number_of_place t p)).0 (both-second _ _ tests))
    (floor_parts p t.rate fills.rated) (div-add-mod' _ (samples_per_frame t.shape))

-- where a slot holds the frame in which a sample lies, the sample is the slot's
pub sample_of-some : (t : Timing) (r : Recorded) (files : List (List ℕ)) (p : ℤ) (slot : Slot) → FillsSeconds t
    → frame_slot t.shape (station_slots t.shape.frame_bytes files) r.thread (second_of_place t p) (number_of_place t p) ≡ Some slot
    → sample_of t r files p ≡ Some (level_at (drop (head_bytes t.shape.legacy) slot.bytes) t.shape.bits (chans_of t.shape) r.index (sample_in_frame t p))
sample_of-some t r files p slot fills found =
    let holds = found-holds (λ (s : Slot). holds_frame t.shape r.thread (second_of_place t p) (number_of_place t p) s.bytes) (station_slots t.shape.frame_bytes files) slot found in
    let at : unsigned_abs (p -ℤ slot_place t slot.bytes) ≡ sample_in_frame t p =
    ap (λ (first : ℤ). unsigned_abs (p -ℤ first)) (slot_place-frame t r.thread p slot.bytes fills holds) ∙ place_back p (sample_in_frame t p) in
    sample_of-frame_slot t r files p fills
    ∙ ap (option_map (λ (s : Slot). level_in t r.index p s.bytes)) found
    ∙ ap (λ (i : ℕ). Some (level_at (drop (head_bytes t.shape.legacy) slot.bytes) t.shape.bits (chans_of t.shape) r.index i)) at

-- and where none holds it there is no sample
pub sample_of-none : (t : Timing) (r : Recorded) (files : List (List ℕ)) (p : ℤ) → FillsSeconds t
    → frame_slot t.shape (station_slots t.shape.frame_bytes files) r.thread (second_of_place t p) (number_of_place t p) ≡ None
    → sample_of t r files p ≡ None
sample_of-none t r files p fills none =
    sample_of-frame_slot t r files p fills ∙ ap (option_map (λ (s : Slot). level_in t r.index p s.bytes)) none

-- ---- where the slots stand

-- a slot stands whole in the file of its number
pub record Stands (files : List (List ℕ)) (size : ℕ) (slot : Slot) : Type 0 where
  pub at : StandsAt files (place_of_slot slot) size
  pub bytes : slot.bytes ≡ bytes_at files (place_of_slot slot) size

-- each slot of a station stands whole in one of its files
placed_slot-stands : (size : ℕ) (files : List (List ℕ)) (n : ℕ) (bytes : List ℕ) (k : ℕ) → n < length files → get_or files n [] ≡ bytes → k < length bytes / size
    → Stands files size (placed_slot size n bytes k)
placed_slot-stands size files n bytes k inside is below =
    let within : k * size + size ≤ length bytes = slot_within size bytes k below in
    record {
      at = record { file = inside; whole = rw is within };
      bytes = ap (λ (b : List ℕ). take size (drop (k * size) b)) (sym is);
    }

placed_in-stands : (size : ℕ) (files : List (List ℕ)) (n : ℕ) (bytes : List ℕ) → n < length files → get_or files n [] ≡ bytes
    → All (Stands files size) (placed_in size n bytes)
placed_in-stands size files n bytes inside is = λ k d h.
    let below : k < length bytes / size = omega (arith, length-map-range_with_len (placed_slot size n bytes) 0 (length bytes / size)) in
    subst (Stands files size) (sym (get_or-map-range_with_len (placed_slot size n bytes) 0 (length bytes / size) k k d below (zero-add k)))
    (placed_slot-stands size files n bytes k inside is below)

placed_from-stands : (size : ℕ) (all before files : List (List ℕ)) (n : ℕ) → all ≡ before ++ files → n ≡ length before
    → All (Stands all size) (placed_from size n files)
placed_from-stands size all before [] n e count = λ k d h. absurd (omega arith)
placed_from-stands size all before (bytes ∷ files) n e count =
    let inside : n < length all = omega (arith, ap length e, length-append before (bytes ∷ files)) in
    let here : get_or all n [] ≡ bytes =
    ap (λ (xs : List (List ℕ)). get_or xs n []) e ∙ ap (λ (i : ℕ). get_or (before ++ bytes ∷ files) i []) count ∙ get_or-append_seam before bytes files [] in
    All-append (Stands all size) (placed_in size n bytes) (placed_from size (n + 1) files)
    (placed_in-stands size all n bytes inside here)
    (placed_from-stands size all (before ++ bytes ∷ []) files (n + 1) (e ∙ sym (append_assoc before (bytes ∷ []) files)) (omega (arith, length-append before (bytes ∷ []))))

station_slots-stand : (size : ℕ) (files : List (List ℕ)) → All (Stands files size) (station_slots size files)
station_slots-stand size files = placed_from-stands size files [] files 0 refl refl

-- ---- what the index says

-- what was found, from its place
place-none : (found : Option Slot) → option_map place_of_slot found ≡ None → found ≡ None
place-none None e = refl
place-none (Some slot) e = cc

place-some : (found : Option Slot) (at : SlotAt) → option_map place_of_slot found ≡ Some at → (slot : Slot) × (found ≡ Some slot) × (place_of_slot slot ≡ at)
place-some None at e = cc
place-some (Some slot) at e = (slot, refl, cc)

-- a slot of a frame, and the place at which it stands
pub record IsSlotAt (shape : ShapeFields) (files : List (List ℕ)) (thread : ℕ) (second : ℤ) (number : ℕ) (at : SlotAt) (slot : Slot) : Type 0 where
  pub found : frame_slot shape (station_slots shape.frame_bytes files) thread second number ≡ Some slot
  pub stands : StandsAt files at shape.frame_bytes
  pub bytes : slot.bytes ≡ bytes_at files at shape.frame_bytes

-- where the index has a place, a slot that holds the frame stands there
pub slot_at_place : (shape : ShapeFields) (files : List (List ℕ)) (index : IndexFields) (thread : ℕ) (second : ℤ) (number : ℕ) (at : SlotAt)
    → IsIndexOf shape (station_slots shape.frame_bytes files) index
    → place_in index thread second number ≡ Some at
    → (slot : Slot) × IsSlotAt shape files thread second number at slot
slot_at_place shape files index thread second number at is found =
    let slots : List Slot = station_slots shape.frame_bytes files in
    let p : Slot → Bool = λ (s : Slot). holds_frame shape thread second number s.bytes in
    let named = place-some (frame_slot shape slots thread second number) at (sym (is.places thread second number) ∙ found) in
    let stands = found-among (Stands files shape.frame_bytes) p slots named.0 (station_slots-stand shape.frame_bytes files) named.1 in (
      named.0,
      record {
        found = named.1;
        stands = subst (λ (a : SlotAt). StandsAt files a shape.frame_bytes) named.2 stands.at;
        bytes = stands.bytes ∙ ap (λ (a : SlotAt). bytes_at files a shape.frame_bytes) named.2;
      },
    )

-- where it has none, no slot holds the frame
pub no_slot : (shape : ShapeFields) (slots : List Slot) (index : IndexFields) (thread : ℕ) (second : ℤ) (number : ℕ) → IsIndexOf shape slots index
    → place_in index thread second number ≡ None
    → frame_slot shape slots thread second number ≡ None
no_slot shape slots index thread second number is none =
    place-none (frame_slot shape slots thread second number) (sym (is.places thread second number) ∙ none)

-- ---- frames of a station

-- the frames of a station fill each second
pub fills_seconds : (part : StationPart) → IsShape part.shape → FillsSeconds (timing_of part)
fills_seconds part shape = record {
  some = samples_per_frame_some part.shape shape;
  rated = part.track.is_model.some_rate;
  whole = part.sound.rate;
}

-- a place that the index gives is one at which a slot stands
pub stands_indexed : (told : Shelved) (part : StationPart) (index : IndexFields) (thread : ℕ) (second : ℤ) (number : ℕ) (at : SlotAt)
    → place_in index thread second number ≡ Some at
    → IsIndexed told part index
    → StandsAt (bytes_on told part.files.now) at part.shape.frame_bytes
stands_indexed told part index thread second number at found indexed =
    (slot_at_place part.shape (bytes_on told part.files.now) index thread second number at indexed.1 found).1.stands
