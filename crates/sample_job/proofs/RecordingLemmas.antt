-- What the recordings of a sample hold.
use Rattle.std.proofs.Common.{◌≡◌, ◌*◌, ◌+◌, ◌/◌, ◌%◌, ◌≤◌, ◌<◌, ◌⊎◌, inl, inr, ℕ, zero, suc, Bool, true, false, List, [], ◌∷◌, ◌++◌, length, take, replicate, None, refl, sym, ap, ◌∙◌, subst, arith, append-nil, append_assoc, length-append}
use Rattle.std.specs.Prelude.{◌==◌, if◌then◌else◌}
use Rattle.std.specs.List.{flat_map, range_with_len}
use Rattle.vdif_frame.specs.Header.{AreInRange, header_bytes}
use Rattle.vdif_frame.specs.Shape.{ShapeFields}
use Rattle.vdif_frame.specs.Agreement.{first_field}
use Rattle.corr_model.specs.Sample.{agrees_with}
use Rattle.corr_model.specs.Slots.{slots_of}
use Rattle.frame_index.specs.Foreign.{foreign_field}
use Rattle.std.proofs.Math.Seq.{take-append_seam}
use Rattle.std.proofs.lemmas.List.{length-replicate}
use Rattle.std.proofs.lemmas.Bool.{eq-eqb, lt-ltb}
use Rattle.vdif_frame.proofs.Bytes.{fields_of-header_bytes, length-header_bytes}
use Rattle.sample_gen.proofs.WordLemmas.{length-bytes_of}
use Rattle.sample_gen.specs.Frames.{header_of, slot, slots_by, frame_slots, first_word, recording_of}
use Rattle.sample_gen.specs.Words.{word, bytes_of}

-- the header of one of the first 600 frames
in-range : (invalid : Bool) (station k : ℕ) → station < 65536 → k < 600 → AreInRange (header_of invalid station k)
in-range invalid station k s few = record {
  seconds = omega arith;
  spare = omega arith;
  epoch = omega arith;
  frame = omega arith;
  version = omega arith;
  chans_log2 = omega arith;
  units = omega arith;
  some_bits = omega arith;
  bits = omega arith;
  thread = omega arith;
  station = omega arith;
  extended = refl;
  legacy_zero = λ _. refl;
}

-- bytes that begin with a slot of one of the first 600 frames of a station
pub record BeginsSo (station : ℕ) (bytes : List ℕ) : Type 0 where
  pub invalid : Bool
  pub k : ℕ
  pub few : k < 600
  pub array : List ℕ
  pub wide : length array ≡ 8000
  pub rest : List ℕ
  pub is : bytes ≡ slot invalid station k array ++ rest

abbrev pub Begins : ℕ → List ℕ → Type 0
Begins station bytes = (bytes ≡ []) ⊎ BeginsSo station bytes

begins-append : (station : ℕ) (a b : List ℕ) → Begins station a → Begins station b → Begins station (a ++ b)
begins-append station a b (inl none) there = subst (λ (t : List ℕ). Begins station (t ++ b)) (sym none) there
begins-append station a b (inr so) there = inr (record {
  invalid = so.invalid;
  k = so.k;
  few = so.few;
  array = so.array;
  wide = so.wide;
  rest = so.rest ++ b;
  is = ap (λ (t : List ℕ). t ++ b) so.is ∙ append_assoc (slot so.invalid station so.k so.array) so.rest b;
})

begins-slot : (station k : ℕ) (invalid : Bool) (array rest : List ℕ) → k < 600 → length array ≡ 8000 → Begins station (slot invalid station k array ++ rest)
begins-slot station k invalid array rest few wide = inr (record {
  invalid = invalid;
  k = k;
  few = few;
  array = array;
  wide = wide;
  rest = rest;
  is = refl;
})

-- the slots of a frame, by the three tests of its word
abbrev pub slots_when : Bool → Bool → Bool → ℕ → ℕ → List ℕ → List ℕ
slots_when out marked double station k array =
    if out then []
    else if marked then slot true station k array
    else if double then slot false station k array ++ slot false station k (replicate 8000 0)
    else slot false station k array

begins-when : (out marked double : Bool) (station k : ℕ) (array : List ℕ) → k < 600 → length array ≡ 8000 → Begins station (slots_when out marked double station k array)
begins-when true marked double station k array few wide = inl refl
begins-when false true double station k array few wide =
    subst (Begins station) (append-nil (slot true station k array)) (begins-slot station k true array [] few wide)
begins-when false false true station k array few wide = begins-slot station k false array (slot false station k (replicate 8000 0)) few wide
begins-when false false false station k array few wide =
    subst (Begins station) (append-nil (slot false station k array)) (begins-slot station k false array [] few wide)

length-slot : (invalid : Bool) (station k : ℕ) (array : List ℕ) → station < 65536 → k < 600 → length array ≡ 8000 → length (slot invalid station k array) ≡ 8032
length-slot invalid station k array s few wide =
    let head = length-header_bytes (header_of invalid station k) (in-range invalid station k s few) in
    let all = length-append (header_bytes (header_of invalid station k)) array in
    omega (arith, head, all, wide)

length-when : (out marked double : Bool) (station k : ℕ) (array : List ℕ) → station < 65536 → k < 600 → length array ≡ 8000
    → length (slots_when out marked double station k array) ≤ 16064
length-when true marked double station k array s few wide = omega arith
length-when false true double station k array s few wide =
    let one = length-slot true station k array s few wide in
    omega (arith, one)
length-when false false true station k array s few wide =
    let one = length-slot false station k array s few wide in
    let zeros : length (replicate {A = ℕ} 8000 0) ≡ 8000 = length-replicate {A = ℕ} 8000 0 in
    let two = length-slot false station k (replicate 8000 0) s few zeros in
    let all = length-append (slot false station k array) (slot false station k (replicate 8000 0)) in
    omega (arith, one, two, all)
length-when false false false station k array s few wide =
    let one = length-slot false station k array s few wide in
    omega (arith, one)

-- the slots of a frame
begins-slots : (w station k : ℕ) (array : List ℕ) → k < 600 → length array ≡ 8000 → Begins station (slots_by w station k array)
unfolding slots_by
begins-slots w station k array few wide = begins-when (w % 32 == 0) (w % 32 == 1) (w % 32 == 2) station k array few wide

length-slots : (w station k : ℕ) (array : List ℕ) → station < 65536 → k < 600 → length array ≡ 8000 → length (slots_by w station k array) ≤ 16064
unfolding slots_by
length-slots w station k array s few wide = length-when (w % 32 == 0) (w % 32 == 1) (w % 32 == 2) station k array s few wide

-- those of frames in a row
module _ (slots : ℕ → List ℕ) (station : ℕ) where
  begins-all : ((k : ℕ) → k < 600 → Begins station (slots k)) → (a n : ℕ) → a + n ≤ 600 → Begins station (flat_map slots (range_with_len a n))
  begins-all each a zero few = inl refl
  begins-all each a (suc n) few =
      begins-append station (slots a) (flat_map slots (range_with_len (a + 1) n)) (each a (omega arith)) (begins-all each (a + 1) n (omega arith))

  length-all : ((k : ℕ) → k < 600 → length (slots k) ≤ 16064) → (a n : ℕ) → a + n ≤ 600 → length (flat_map slots (range_with_len a n)) ≤ n * 16064
  length-all each a zero few = omega arith
  length-all each a (suc n) few =
      let here = each a (omega arith) in
      let more = length-all each (a + 1) n (omega arith) in
      let all = length-append (slots a) (flat_map slots (range_with_len (a + 1) n)) in
      omega (arith, here, more, all)

-- a recording of at most 60 seconds
pub recording-begins : (seed seconds station : ℕ) → seconds ≤ 60 → Begins station (recording_of seed seconds station)
unfolding recording_of
recording-begins seed seconds station few =
    begins-all (λ k. frame_slots seed (first_word seconds station k) station k) station
    (λ k below. begins-slots (word seed (first_word seconds station k)) station k (bytes_of seed (first_word seconds station k + 1) 1000) below
    (length-bytes_of seed (first_word seconds station k + 1) 1000)) 0 (10 * seconds) (omega arith)

pub recording-short : (seed seconds station : ℕ) → seconds ≤ 60 → station < 65536 → length (recording_of seed seconds station) ≤ 9638400
unfolding recording_of
recording-short seed seconds station few s =
    let all = length-all (λ k. frame_slots seed (first_word seconds station k) station k) station
    (λ k below. length-slots (word seed (first_word seconds station k)) station k (bytes_of seed (first_word seconds station k + 1) 1000) s below
    (length-bytes_of seed (first_word seconds station k + 1) 1000)) 0 (10 * seconds) (omega arith) in
    omega (arith, all)

-- the shape of a station of a sample
abbrev pub shape_with : ℕ → ShapeFields
shape_with station = record { legacy = false; frame_bytes = 8032; chans_log2 = 1; bits = 2; station = station; frames = 10 }

slot-agrees : (invalid : Bool) (station k : ℕ) (array : List ℕ) → station < 65536 → k < 600 → agrees_with (shape_with station) (slot invalid station k array) ≡ true
unfolding first_field
slot-agrees invalid station k array s few =
    rw (fields_of-header_bytes (header_of invalid station k) (in-range invalid station k s few) array, eq-eqb station station refl, lt-ltb (k % 10) 10 (omega arith)) refl

-- slots of which the first agrees
first-agrees : (shape : ShapeFields) (slot rest : List ℕ) → length slot ≡ 8032 → agrees_with shape slot ≡ true
    → foreign_field shape (slots_of 8032 ((slot ++ rest) ∷ [])) ≡ None
first-agrees shape slot rest wide agrees =
    let all = length-append slot rest in
    let many : length (slot ++ rest) / 8032 ≡ suc (length rest / 8032) = omega (arith, all, wide) in
    let first : take 8032 (slot ++ rest) ≡ slot = subst (λ n. take n (slot ++ rest) ≡ slot) wide (take-append_seam slot rest) in
    rw many (rw (first, agrees) refl)

none-agrees : (shape : ShapeFields) → foreign_field shape (slots_of 8032 ([] ∷ [])) ≡ None
none-agrees shape = refl

agrees-so : (station : ℕ) (bytes : List ℕ) → station < 65536 → Begins station bytes → foreign_field (shape_with station) (slots_of 8032 (bytes ∷ [])) ≡ None
agrees-so station bytes s (inl none) = rw none (none-agrees (shape_with station))
agrees-so station bytes s (inr so) =
    rw so.is (first-agrees (shape_with station) (slot so.invalid station so.k so.array) so.rest
    (length-slot so.invalid station so.k so.array s so.few so.wide) (slot-agrees so.invalid station so.k so.array s so.few))

pub recording-agrees : (seed seconds station : ℕ) → seconds ≤ 60 → station < 65536
    → foreign_field (shape_with station) (slots_of 8032 (recording_of seed seconds station ∷ [])) ≡ None
recording-agrees seed seconds station few s = agrees-so station (recording_of seed seconds station) s (recording-begins seed seconds station few)
