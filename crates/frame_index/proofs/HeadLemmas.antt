-- The header of a slot, read from the slot's first 32 bytes.
use Rattle.std.proofs.Common.{◌≡◌, ◌∙◌, refl, sym, ap, ℕ, ◌+◌, ◌*◌, ◌≤◌, ◌<◌, min, Bool, true, false, List, length, get_or, take, drop, Some, arith}
use Rattle.std.proofs.lemmas.List.{get_or-take, drop-take, take_all, length-take}
use Rattle.byteorder.specs.Endian.{little_number}
use Rattle.vdif_frame.specs.Header.{HeaderFields, HasHeader, fields_of, word, legacy_bit}
use Rattle.vdif_frame.specs.Shape.{ShapeFields, IsShape, head_bytes}
use Rattle.vdif_frame.specs.Agreement.{first_field}
use Rattle.vdif_frame.specs.declared.shape.Field.TheVariants.{Legacy}

-- the number in the first four bytes
little_number-take : (n : ℕ) (bytes : List ℕ) → 4 ≤ n → little_number 4 (take n bytes) ≡ little_number 4 bytes
little_number-take n bytes h =
    let at : (i : ℕ) → i < 4 → get_or (take n bytes) i 0 ≡ get_or bytes i 0 = λ i k. get_or-take n bytes i 0 (omega (arith, h)) in
    rw (at 0 (omega arith), at 1 (omega arith), at 2 (omega arith), at 3 (omega arith)) refl

word-take : (bytes : List ℕ) (w n : ℕ) → 4 * w + n ≡ 32 → 4 ≤ n → word (take 32 bytes) w ≡ word bytes w
word-take bytes w n e h =
    ap (λ (m : ℕ). little_number 4 (drop (4 * w) (take m bytes))) (sym e)
    ∙ ap (little_number 4) (drop-take (4 * w) n bytes)
    ∙ little_number-take n (drop (4 * w) bytes) h

extended-take : (bytes : List ℕ) → take 16 (drop 16 (take 32 bytes)) ≡ take 16 (drop 16 bytes)
extended-take bytes =
    ap (take 16) (drop-take 16 16 bytes)
    ∙ take_all 16 (take 16 (drop 16 bytes)) (omega (arith, length-take 16 (drop 16 bytes)))

-- the fields of a header stand in the first 32 bytes
pub fields_of-take : (bytes : List ℕ) → fields_of (take 32 bytes) ≡ fields_of bytes
unfolding fields_of
fields_of-take bytes =
    rw (word-take bytes 0 32 refl (omega arith), word-take bytes 1 28 refl (omega arith), word-take bytes 2 24 refl (omega arith), word-take bytes 3 20 refl (omega arith), extended-take bytes) refl

-- a frame of a legacy shape whose slot has no legacy bit
first_field-legacy : (h : HeaderFields) (s : ShapeFields) → h.legacy ≡ false → s.legacy ≡ true → first_field h s ≡ Some Legacy
unfolding first_field
first_field-legacy h s e k = rw (e, k) refl

legacy-fields_of : (head : List ℕ) → (fields_of head).legacy ≡ legacy_bit head
unfolding fields_of
legacy-fields_of head = refl

-- a slot's front lacks a header only where a legacy shape's slot is short and has no legacy bit
short_head : (head : List ℕ) (s : ShapeFields) (bit legacy : Bool) → IsShape s → length head ≡ min 32 s.frame_bytes
    → (HasHeader head → ⊥) → legacy_bit head ≡ bit → s.legacy ≡ legacy
    → (bit ≡ false) × (legacy ≡ true)
short_head head s true legacy h e lacks is_bit is_legacy =
    let least : head_bytes legacy + 8 ≤ s.frame_bytes = rw is_legacy at h.least in
    absurd (lacks (record { four_words = four legacy least; eight_words = λ k. cc }))
  where
    four : (legacy : Bool) → head_bytes legacy + 8 ≤ s.frame_bytes → 16 ≤ length head
    four true k = omega arith
    four false k = omega arith
short_head head s false true h e lacks is_bit is_legacy = (refl, refl)
short_head head s false false h e lacks is_bit is_legacy =
    let least : head_bytes false + 8 ≤ s.frame_bytes = rw is_legacy at h.least in
    absurd (lacks (record { four_words = omega arith; eight_words = λ k. omega arith }))

-- the first field in which a slot without a header differs
pub first_field-no_header : (head : List ℕ) (s : ShapeFields) → IsShape s → length head ≡ min 32 s.frame_bytes → (HasHeader head → ⊥)
    → first_field (fields_of head) s ≡ Some Legacy
first_field-no_header head s h e lacks =
    let both = short_head head s (legacy_bit head) s.legacy h e lacks refl refl in
    first_field-legacy (fields_of head) s (legacy-fields_of head ∙ both.0) both.1
