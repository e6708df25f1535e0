-- The frames of the valid slots.
use Rattle.std.specs.Prelude.{if◌then◌else◌, not, is_some, ◌&&◌, ◌||◌, ◌==◌, option_map, map}
use Rattle.std.specs.List.{list_any, find, filter}
use Rattle.std.specs.Ordering.{int_eq, is_gt}
use Rattle.std.specs.BTreeMap.{is_at}
use Rattle.std.proofs.Common.{◌≡◌, ◌∙◌, refl, sym, ap, ℕ, ◌+◌, ◌<◌, Bool, true, false, List, [], ◌∷◌, ◌++◌, Option, Some, length, arith}
use Rattle.std.proofs.lemmas.List.{append-nil, append_assoc, length-append, map-append, length-map, get_or-map}
use Rattle.std.proofs.lemmas.List.Elements.{filter-append}
use Rattle.std.proofs.lemmas.List.Kept.{AllPairs-filter}
use Rattle.vdif_frame.specs.Header.{fields_of}
use Rattle.vdif_frame.specs.Shape.{ShapeFields}
use Rattle.corr_model.specs.Slots.{Slot}
use Rattle.corr_model.specs.Sample.{agrees_with}
use Rattle.corr_model.specs.Frames.{second_in, holds_frame}
use Rattle.frame_index.specs.declared.frame.Frame.{Frame}
use Rattle.frame_index.specs.FrameOrder.{frame_cmp, frame_in, place_cmp, place_under, frames_in, AreInFileOrder}
use Rattle.frame_index.specs.Counted.{count_after, count_where, is_valid, is_doubled}
use Rattle.frame_index.specs.Indexed.{place_of_slot, frame_place}
use Rattle.frame_index.specs.SlotOrder.{FollowOn}
use Rattle.frame_index.specs.Building.{placed_frame, valid_frames}
use Rattle.frame_index.proofs.FirstPlaces.{Entry, frames_tied, same_frame_laws, frames_in-push}

-- ---- one more slot

more : (b : Bool) (done : List Entry) (slot : Slot)
    → done ++ map placed_frame (if b then slot ∷ [] else []) ≡ (if b then done ++ placed_frame slot ∷ [] else done)
more true done slot = refl
more false done slot = append-nil done

pub valid_frames-more : (shape : ShapeFields) (done : List Slot) (slot : Slot) (b : Bool) → is_valid shape slot.bytes ≡ b
    → valid_frames shape (done ++ slot ∷ []) ≡ (if b then valid_frames shape done ++ placed_frame slot ∷ [] else valid_frames shape done)
valid_frames-more shape done slot b e =
    let p : Slot → Bool = λ (s : Slot). is_valid shape s.bytes in
    ap (map placed_frame) (filter-append p done (slot ∷ []))
    ∙ map-append placed_frame (filter p done) (filter p (slot ∷ []))
    ∙ ap (λ (c : Bool). valid_frames shape done ++ map placed_frame (if c then slot ∷ [] else [])) e
    ∙ more b (valid_frames shape done) slot

-- ---- the place of a frame

turned : (t s n : Bool) → (t && (s && n)) ≡ (s && (n && t))
turned true true true = refl
turned true true false = refl
turned true false n = refl
turned false true true = refl
turned false true false = refl
turned false false n = refl

holds_valid : (agrees invalid at : Bool) (valid : Bool) → (agrees && not invalid) ≡ valid → (agrees && (not invalid && at)) ≡ (valid && at)
holds_valid true true at valid e = rw (sym e) refl
holds_valid true false at valid e = rw (sym e) refl
holds_valid false invalid at valid e = rw (sym e) refl

-- a valid slot holds a frame exactly where its own one is the same
holds-at : (shape : ShapeFields) (frame : Frame) (slot : Slot) (valid : Bool) → is_valid shape slot.bytes ≡ valid
    → holds_frame shape frame.thread frame.second frame.number slot.bytes ≡ (valid && is_at (frame_cmp frame) (frame_in slot.bytes))
holds-at shape frame slot valid e =
    holds_valid (agrees_with shape slot.bytes) (fields_of slot.bytes).invalid _ valid e
    ∙ ap (λ (b : Bool). valid && b)
    (turned ((fields_of slot.bytes).thread == frame.thread) (int_eq (second_in slot.bytes) frame.second) ((fields_of slot.bytes).frame == frame.number)
    ∙ frames_tied (frame_in slot.bytes) frame
    ∙ same_frame_laws.symm (frame_in slot.bytes) frame)

pub places-valid : (shape : ShapeFields) (slots : List Slot) (frame : Frame)
    → place_under (valid_frames shape slots) frame ≡ frame_place shape slots frame.thread frame.second frame.number
places-valid shape [] frame = refl
places-valid shape (x ∷ slots) frame = chosen (is_valid shape x.bytes) refl (places-valid shape slots frame)
  where
    p : Slot → Bool
    p slot = holds_frame shape frame.thread frame.second frame.number slot.bytes

    here : (at : Bool) → place_under (valid_frames shape slots) frame ≡ option_map place_of_slot (find p slots)
        → (if at then Some (place_of_slot x) else place_under (valid_frames shape slots) frame) ≡ option_map place_of_slot (if at then Some x else find p slots)
    here true rest = refl
    here false rest = rest

    chosen : (b : Bool) → is_valid shape x.bytes ≡ b
        → place_under (valid_frames shape slots) frame ≡ option_map place_of_slot (find p slots)
        → place_under (map placed_frame (if b then x ∷ filter (λ (s : Slot). is_valid shape s.bytes) slots else filter (λ (s : Slot). is_valid shape s.bytes) slots)) frame
        ≡ option_map place_of_slot (if p x then Some x else find p slots)
    chosen true e rest =
        here (is_at (frame_cmp frame) (frame_in x.bytes)) rest
        ∙ ap (λ (at : Bool). option_map place_of_slot (if at then Some x else find p slots)) (sym (holds-at shape frame x true e))
    chosen false e rest =
        rest
        ∙ ap (λ (at : Bool). option_map place_of_slot (if at then Some x else find p slots)) (sym (holds-at shape frame x false e))

-- ---- the doubled ones

is_some-choice : (b rest : Bool) (x : Slot) (found : Option Slot) → is_some (option_map place_of_slot found) ≡ rest
    → is_some (option_map place_of_slot (if b then Some x else found)) ≡ (b || rest)
is_some-choice true rest x found e = refl
is_some-choice false rest x found e = e

is_some-find : (p : Slot → Bool) (slots : List Slot) → is_some (option_map place_of_slot (find p slots)) ≡ list_any p slots
is_some-find p [] = refl
is_some-find p (x ∷ slots) = is_some-choice (p x) (list_any p slots) x (find p slots) (is_some-find p slots)

-- an earlier slot holds the frame exactly where there is a place under it
pub known-before : (shape : ShapeFields) (before : List Slot) (frame : Frame)
    → list_any (λ (slot : Slot). holds_frame shape frame.thread frame.second frame.number slot.bytes) before ≡ is_some (place_under (valid_frames shape before) frame)
known-before shape before frame =
    sym (is_some-find (λ (slot : Slot). holds_frame shape frame.thread frame.second frame.number slot.bytes) before)
    ∙ ap is_some (sym (places-valid shape before frame))

one_or_other : (b : Bool) (frames all : ℕ) → (if b then 1 else 0) + (frames + (if b then 0 else 1)) + all ≡ frames + (all + 1)
one_or_other true frames all = omega arith
one_or_other false frames all = omega arith

doubled-step : (shape : ShapeFields) (before : List Slot) (slot : Slot)
    → (if is_doubled shape before slot then 1 else 0) + frames_in (valid_frames shape (before ++ slot ∷ [])) + length (valid_frames shape before)
    ≡ frames_in (valid_frames shape before) + length (valid_frames shape (before ++ slot ∷ []))
doubled-step shape before slot = chosen (is_valid shape slot.bytes) refl
  where
    known : Bool
    known = list_any (λ (earlier : Slot). holds_frame shape (fields_of slot.bytes).thread (second_in slot.bytes) (fields_of slot.bytes).frame earlier.bytes) before

    chosen : (b : Bool) → is_valid shape slot.bytes ≡ b
        → (if is_valid shape slot.bytes && known then 1 else 0) + frames_in (valid_frames shape (before ++ slot ∷ [])) + length (valid_frames shape before)
        ≡ frames_in (valid_frames shape before) + length (valid_frames shape (before ++ slot ∷ []))
    chosen true e =
        let long : length (valid_frames shape before ++ placed_frame slot ∷ []) ≡ length (valid_frames shape before) + 1 = length-append (valid_frames shape before) (placed_frame slot ∷ []) in
        rw (e, valid_frames-more shape before slot true e, long, frames_in-push (valid_frames shape before) (placed_frame slot), known-before shape before (frame_in slot.bytes))
        (one_or_other (is_some (place_under (valid_frames shape before) (frame_in slot.bytes))) (frames_in (valid_frames shape before)) (length (valid_frames shape before)))
    chosen false e = rw (e, valid_frames-more shape before slot false e) (omega arith)

doubled-after : (shape : ShapeFields) (before slots : List Slot)
    → count_after (is_doubled shape) before slots + frames_in (valid_frames shape (before ++ slots)) + length (valid_frames shape before)
    ≡ frames_in (valid_frames shape before) + length (valid_frames shape (before ++ slots))
doubled-after shape before [] =
    let none : count_after (is_doubled shape) before [] ≡ 0 = refl in
    rw (append-nil before) (omega (arith, none))
doubled-after shape before (x ∷ slots) =
    let joined : (before ++ x ∷ []) ++ slots ≡ before ++ (x ∷ slots) = append_assoc before (x ∷ []) slots in
    let rest = rw joined at (doubled-after shape (before ++ x ∷ []) slots) in
    let step = doubled-step shape before x in
    omega (arith, rest, step)

pub doubled-valid : (shape : ShapeFields) (slots : List Slot)
    → count_where (is_doubled shape) slots + frames_in (valid_frames shape slots) ≡ length (valid_frames shape slots)
doubled-valid shape slots = let all = doubled-after shape [] slots in omega (arith, all)

-- ---- the order of their places

pub in_order-valid : (shape : ShapeFields) (slots : List Slot) → FollowOn slots → AreInFileOrder (valid_frames shape slots)
in_order-valid shape slots follow i j d h inside =
    let p : Slot → Bool = λ (s : Slot). is_valid shape s.bytes in
    let e : Slot = record { file = 0; at = 0; bytes = [] } in
    let long = length-map (filter p slots) placed_frame in
    let within : j < length (filter p slots) = omega (arith, long) in
    rw (get_or-map placed_frame (filter p slots) i e d (omega arith), get_or-map placed_frame (filter p slots) j e d within)
    (AllPairs-filter (λ (a b : Slot). is_gt (place_cmp (place_of_slot a) (place_of_slot b)) ≡ false) p slots follow i j e h within)
