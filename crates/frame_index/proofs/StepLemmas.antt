-- What one more slot changes.
use Rattle.std.specs.Prelude.{if◌then◌else◌, not, is_none, ◌&&◌, ◌||◌, ◌==◌, map, pos, ◌+ℤ◌}
use Rattle.std.specs.List.{list_any}
use Rattle.std.proofs.Common.{◌≡◌, ◌∙◌, refl, sym, ap, ℕ, suc, ◌+◌, Bool, true, false, List, [], ◌∷◌, ◌++◌, Option, Some, None, length, add-zero, arith}
use Rattle.std.proofs.lemmas.Bool.Decides.{nat_tests}
use Rattle.std.proofs.lemmas.List.{append-nil, append_assoc, length-append, length-map, map-append}
use Rattle.std.proofs.lemmas.List.Folds.{list_any-append}
use Rattle.num_time.specs.Numbers.{epoch_second_of}
use Rattle.vdif_frame.specs.Header.{HeaderFields, fields_of}
use Rattle.vdif_frame.specs.Shape.{ShapeFields}
use Rattle.vdif_frame.specs.Agreement.{first_field}
use Rattle.vdif_frame.specs.declared.shape.Field.{Field}
use Rattle.corr_model.specs.Slots.{Slot}
use Rattle.corr_model.specs.Sample.{agrees_with}
use Rattle.frame_index.specs.declared.counts.Counts.{Counts}
use Rattle.frame_index.specs.declared.frame.Frame.{Frame}
use Rattle.frame_index.specs.declared.frame.SlotAt.{SlotAt}
use Rattle.frame_index.specs.declared.builder.Builder.{Builder}
use Rattle.frame_index.specs.declared.valid.ValidFrames.{ValidFrames}
use Rattle.frame_index.specs.declared.latest.LatestFrames.{LatestFrames}
use Rattle.frame_index.specs.FrameOrder.{is_earlier, frame_in}
use Rattle.frame_index.specs.Passed.{is_passed}
use Rattle.frame_index.specs.Foreign.{slot_field, foreign_field}
use Rattle.frame_index.specs.Counted.{count_after, count_where, is_foreign, is_invalid, is_doubled, is_late, counts_of}
use Rattle.frame_index.specs.Building.{is_behind, Holds, placed_frame, valid_frames}
use Rattle.frame_index.proofs.ValidLemmas.{valid_frames-more}

-- ---- counts

count_after-append : (p : List Slot → Slot → Bool) (before slots : List Slot) (slot : Slot)
    → count_after p before (slots ++ slot ∷ []) ≡ count_after p before slots + (if p (before ++ slots) slot then 1 else 0)
count_after-append p before [] slot = rw append-nil (omega arith)
count_after-append p before (x ∷ slots) slot =
    let more = count_after-append p (before ++ x ∷ []) slots slot in
    let joined : (before ++ x ∷ []) ++ slots ≡ before ++ (x ∷ slots) = append_assoc before (x ∷ []) slots in
    let more_joined = rw joined at more in
    omega (arith, more_joined)

count_where-more : (p : List Slot → Slot → Bool) (slots : List Slot) (slot : Slot) (b : Bool) → p slots slot ≡ b
    → count_where p (slots ++ slot ∷ []) ≡ count_where p slots + (if b then 1 else 0)
count_where-more p slots slot b e = count_after-append p [] slots slot ∙ ap (λ (c : Bool). count_where p slots + (if c then 1 else 0)) e

pub counts_of-more : (shape : ShapeFields) (done : List Slot) (slot : Slot) (doubled invalid foreign late : Bool)
    → is_doubled shape done slot ≡ doubled → is_invalid shape done slot ≡ invalid → is_foreign shape done slot ≡ foreign → is_late shape done slot ≡ late
    → counts_of shape (done ++ slot ∷ [])
    ≡ record {
      slots = (counts_of shape done).slots + 1;
      doubled = (counts_of shape done).doubled + (if doubled then 1 else 0);
      invalid = (counts_of shape done).invalid + (if invalid then 1 else 0);
      foreign = (counts_of shape done).foreign + (if foreign then 1 else 0);
      late = (counts_of shape done).late + (if late then 1 else 0);
    }
counts_of-more shape done slot doubled invalid foreign late d i f l =
    let slots : length (done ++ slot ∷ []) ≡ length done + 1 = length-append done (slot ∷ []) in
    rw (slots, count_where-more (is_doubled shape) done slot doubled d, count_where-more (is_invalid shape) done slot invalid i, count_where-more (is_foreign shape) done slot foreign f, count_where-more (is_late shape) done slot late l) refl

-- ---- frames passed

or_true : (b : Bool) → (b || true) ≡ true
or_true true = refl
or_true false = refl

or_false : (b : Bool) → (b || false) ≡ b
or_false true = refl
or_false false = refl

pub is_behind-more : (shape : ShapeFields) (done : List Slot) (slot : Slot) (frame : Frame) (b : Bool)
    → (agrees_with shape slot.bytes && ((frame.thread == (fields_of slot.bytes).thread) && is_earlier frame (frame_in slot.bytes))) ≡ b
    → is_behind shape (done ++ slot ∷ []) frame ≡ (is_behind shape done frame || b)
is_behind-more shape done slot frame b e =
    let p : Slot → Bool = λ (s : Slot). agrees_with shape s.bytes && ((frame.thread == (fields_of s.bytes).thread) && is_earlier frame (frame_in s.bytes)) in
    list_any-append p done (slot ∷ []) ∙ ap (λ (c : Bool). is_behind shape done frame || (c || false)) e ∙ ap (λ (c : Bool). is_behind shape done frame || c) (or_false b)

-- ---- where none agrees

abbrev bytes_in : List Slot → List (List ℕ)
bytes_in slots = map (λ (slot : Slot). slot.bytes) slots

-- the first slot's field, where none of these agrees
foreign_field-agreeing : (shape : ShapeFields) (slots : List (List ℕ)) (slot : List ℕ) → agrees_with shape slot ≡ true
    → foreign_field shape (slots ++ slot ∷ []) ≡ None
foreign_field-agreeing shape [] slot e = rw e refl
foreign_field-agreeing shape (x ∷ slots) slot e =
    let any : list_any (agrees_with shape) ((x ∷ slots) ++ slot ∷ []) ≡ true = list_any-append (agrees_with shape) (x ∷ slots) (slot ∷ []) ∙ rw e (or_true (list_any (agrees_with shape) (x ∷ slots))) in
    rw any refl

foreign_field-kept : (shape : ShapeFields) (x : List ℕ) (slots : List (List ℕ)) (slot : List ℕ) → agrees_with shape slot ≡ false
    → foreign_field shape (x ∷ (slots ++ slot ∷ [])) ≡ foreign_field shape (x ∷ slots)
foreign_field-kept shape x slots slot differs =
    let any : list_any (agrees_with shape) (slots ++ slot ∷ []) ≡ list_any (agrees_with shape) slots =
    list_any-append (agrees_with shape) slots (slot ∷ []) ∙ rw differs (or_false (list_any (agrees_with shape) slots)) in
    rw any refl

not_first : (n : ℕ) (a b : Option Field) → (if suc n == 0 then a else b) ≡ b
not_first n a b =
    let apart : (suc n == 0) ≡ false = grind (arith, nat_tests) in rw apart refl

foreign_field-foreign : (shape : ShapeFields) (slots : List (List ℕ)) (slot : List ℕ) (field : Field) → slot_field shape slot ≡ Some field
    → foreign_field shape (slots ++ slot ∷ []) ≡ (if length slots == 0 then Some field else foreign_field shape slots)
foreign_field-foreign shape [] slot field e = rw e refl
foreign_field-foreign shape (x ∷ slots) slot field e =
    foreign_field-kept shape x slots slot (ap is_none e) ∙ sym (not_first (length slots) (Some field) (foreign_field shape (x ∷ slots)))

-- ---- the builder

abbrev with_foreign : Counts → Counts
with_foreign c = record c { slots = c.slots + 1; foreign = c.foreign + 1 }

abbrev with_agreeing : Bool → Bool → Counts → Counts
with_agreeing invalid late c = record c {
  slots = c.slots + 1;
  invalid = c.invalid + (if invalid then 1 else 0);
  late = c.late + (if late then 1 else 0);
}

abbrev with_kinds : Bool → Bool → Bool → Bool → Counts → Counts
with_kinds doubled invalid foreign late c = record {
  slots = c.slots + 1;
  doubled = c.doubled + (if doubled then 1 else 0);
  invalid = c.invalid + (if invalid then 1 else 0);
  foreign = c.foreign + (if foreign then 1 else 0);
  late = c.late + (if late then 1 else 0);
}

abbrev none_doubled : Counts → Counts
none_doubled c = record c { doubled = 0 }

no_more : (c : Counts) → with_foreign (none_doubled c) ≡ none_doubled (with_kinds false false true false c)
no_more c = simp add-zero

none_foreign : (doubled invalid late : Bool) (c : Counts) → with_agreeing invalid late (none_doubled c) ≡ none_doubled (with_kinds doubled invalid false late c)
none_foreign doubled invalid late c = rw (add-zero c.foreign) refl

-- one more slot that does not agree
pub Holds-foreign : (shape : ShapeFields) (done : List Slot) (old new : Builder) (slot : Slot) (field : Field) → Holds shape done old
    → first_field (fields_of slot.bytes) shape ≡ Some field
    → new.frames ≡ old.frames → new.latest ≡ old.latest
    → new.counts ≡ record old.counts { slots = old.counts.slots + 1; foreign = old.counts.foreign + 1 }
    → new.none_agrees ≡ (if old.counts.slots == 0 then Some field else old.none_agrees)
    → Holds shape (done ++ slot ∷ []) new
Holds-foreign shape done old new slot field holds differs frames latest counts none_agrees =
    let foreign : agrees_with shape slot.bytes ≡ false = ap is_none differs in
    record {
      frames = ap (λ (met : ValidFrames). met.entries.items) frames
          ∙ holds.frames
          ∙ sym (valid_frames-more shape done slot false (rw foreign refl));
      passed = λ frame.
          ap (λ (latest : LatestFrames). is_passed latest.last.items frame) latest
          ∙ holds.passed frame
          ∙ sym (or_false (is_behind shape done frame))
          ∙ sym (is_behind-more shape done slot frame false (rw foreign refl));
      counts = counts
          ∙ ap with_foreign holds.counts
          ∙ no_more (counts_of shape done)
          ∙ ap none_doubled (sym (counts_of-more shape done slot false false true false (rw foreign refl) (rw foreign refl) (rw foreign refl) (rw foreign refl)));
      none_agrees = none_agrees
          ∙ ap (λ (c : Counts). if c.slots == 0 then Some field else old.none_agrees) holds.counts
          ∙ ap (λ (n : ℕ). if n == 0 then Some field else old.none_agrees) (sym (length-map done (λ (s : Slot). s.bytes)))
          ∙ ap (λ (o : Option Field). if length (bytes_in done) == 0 then Some field else o) holds.none_agrees
          ∙ sym (foreign_field-foreign shape (bytes_in done) slot.bytes field differs)
          ∙ sym (ap (foreign_field shape) (map-append (λ (s : Slot). s.bytes) done (slot ∷ [])));
    }

-- one more slot that agrees
pub Holds-agreeing : (shape : ShapeFields) (done : List Slot) (old new : Builder) (slot : Slot) (invalid late : Bool) → Holds shape done old
    → first_field (fields_of slot.bytes) shape ≡ None
    → (fields_of slot.bytes).invalid ≡ invalid
    → new.frames.entries.items ≡ (if invalid then old.frames.entries.items else old.frames.entries.items ++ placed_frame slot ∷ [])
    → late ≡ is_passed old.latest.last.items (frame_in slot.bytes)
    → ((frame : Frame) → is_passed new.latest.last.items frame ≡ (is_passed old.latest.last.items frame || ((frame.thread == (fields_of slot.bytes).thread) && is_earlier frame (frame_in slot.bytes))))
    → new.counts ≡ with_agreeing invalid late old.counts
    → new.none_agrees ≡ None
    → Holds shape (done ++ slot ∷ []) new
Holds-agreeing shape done old new slot invalid late holds agrees marked frames behind passed counts none_agrees =
    let yes : agrees_with shape slot.bytes ≡ true = ap is_none agrees in
    let frame : Frame = frame_in slot.bytes in
    record {
      frames = frames
          ∙ ap (λ (entries : List (Frame × SlotAt)). if invalid then entries else entries ++ placed_frame slot ∷ []) holds.frames
          ∙ flipped invalid (valid_frames shape done ++ placed_frame slot ∷ []) (valid_frames shape done)
          ∙ sym (valid_frames-more shape done slot (not invalid) (rw (yes, marked) refl));
      passed = λ other.
          passed other
          ∙ ap (λ (b : Bool). b || ((other.thread == (fields_of slot.bytes).thread) && is_earlier other frame)) (holds.passed other)
          ∙ sym (is_behind-more shape done slot other ((other.thread == (fields_of slot.bytes).thread) && is_earlier other frame) (rw yes refl));
      counts = counts
          ∙ ap (with_agreeing invalid late) holds.counts
          ∙ none_foreign (is_doubled shape done slot) invalid late (counts_of shape done)
          ∙ ap none_doubled (sym (counts_of-more shape done slot (is_doubled shape done slot) invalid false late refl (rw (yes, marked) refl) (rw yes refl) (rw yes (sym (behind ∙ holds.passed frame)))));
      none_agrees = none_agrees
          ∙ sym (foreign_field-agreeing shape (bytes_in done) slot.bytes yes)
          ∙ sym (ap (foreign_field shape) (map-append (λ (s : Slot). s.bytes) done (slot ∷ [])));
    }
  where
    flipped : (b : Bool) (xs ys : List (Frame × SlotAt)) → (if b then ys else xs) ≡ (if not b then xs else ys)
    flipped true xs ys = refl
    flipped false xs ys = refl

abbrev place_in_file : ℕ → ℕ → SlotAt
place_in_file file at = record { file = file; at = at }

-- the same, where the header is read and the frame made of it
pub agreeing-step : (shape : ShapeFields) (done : List Slot) (old new : Builder) (file at : ℕ) (bytes : List ℕ) (h : HeaderFields) (frame : Frame) (invalid late : Bool)
    → Holds shape done old
    → first_field h shape ≡ None
    → fields_of bytes ≡ h
    → invalid ≡ h.invalid
    → frame ≡ record { second = epoch_second_of h.epoch +ℤ pos h.seconds; number = h.frame; thread = h.thread }
    → new.frames.entries.items ≡ (if invalid then old.frames.entries.items else old.frames.entries.items ++ (frame, place_in_file file at) ∷ [])
    → late ≡ is_passed old.latest.last.items frame
    → ((other : Frame) → is_passed new.latest.last.items other ≡ (is_passed old.latest.last.items other || ((other.thread == frame.thread) && is_earlier other frame)))
    → new.counts ≡ with_agreeing invalid late old.counts
    → new.none_agrees ≡ None
    → Holds shape (done ++ record { file = file; at = at; bytes = bytes } ∷ []) new
agreeing-step shape done old new file at bytes h frame invalid late holds agrees is marked made frames behind passed counts none_agrees =
    let in_slot : frame ≡ frame_in bytes =
    made ∙ ap (λ (f : HeaderFields). let g : Frame = record { second = epoch_second_of f.epoch +ℤ pos f.seconds; number = f.frame; thread = f.thread } in g) (sym is) in
    Holds-agreeing shape done old new (record { file = file; at = at; bytes = bytes }) invalid late holds
    (ap (λ (f : HeaderFields). first_field f shape) is ∙ agrees)
    (ap (λ (f : HeaderFields). f.invalid) is ∙ sym marked)
    (frames ∙ ap (λ (f : Frame). if invalid then old.frames.entries.items else old.frames.entries.items ++ (f, place_in_file file at) ∷ []) in_slot)
    (behind ∙ ap (λ (f : Frame). is_passed old.latest.last.items f) in_slot)
    (λ other. passed other ∙ ap (λ (f : Frame). is_passed old.latest.last.items other || ((other.thread == f.thread) && is_earlier other f)) in_slot)
    counts none_agrees
