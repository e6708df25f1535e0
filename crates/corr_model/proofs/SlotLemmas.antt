-- The slots of a file one by one, and a search through them in their order.
use Rattle.std.specs.Prelude.{if◌then◌else◌, map}
use Rattle.std.proofs.Common.{◌≡◌, ℕ, ◌+◌, ◌*◌, ◌/◌, ◌<◌, ◌≤◌, Bool, List, [], ◌∷◌, Some, None, length, get_or, drop, ap, ◌∙◌, arith, add-one, zero-add}
use Rattle.std.specs.List.{slice_get, find, range_with_len}
use Rattle.std.proofs.Math.ListN.{drop_of_length-le}
use Rattle.std.proofs.Math.Seq.{drop-cons}
use Rattle.std.proofs.lemmas.List.{append-nil, length-take-le, length-drop}
use Rattle.std.proofs.lemmas.List.FromFn.{length-map-range_with_len, get_or-map-range_with_len}
use Rattle.std.proofs.lemmas.Nat.{div-add-mod', mul-le}
use Rattle.std.proofs.lemmas.Option.{slice_get-get_or}
use Rattle.std.proofs.lemmas.Simd.{map-map}
use Rattle.corr_model.specs.Slots.{Slot, slot_at, slots_in, placed_slot, placed_in, slots_of}

pub length-slots_in : (size : ℕ) (bytes : List ℕ) → length (slots_in size bytes) ≡ length bytes / size
length-slots_in size bytes = length-map-range_with_len (slot_at size bytes) 0 (length bytes / size)

pub get_or-slots_in : (size : ℕ) (bytes : List ℕ) (k : ℕ) (d : List ℕ) → k < length bytes / size
    → get_or (slots_in size bytes) k d ≡ slot_at size bytes k
get_or-slots_in size bytes k d h =
    get_or-map-range_with_len (slot_at size bytes) 0 (length bytes / size) k k d h (zero-add k)

pub slots_in-get : (size : ℕ) (bytes : List ℕ) (k : ℕ) → k < length bytes / size
    → slice_get (slots_in size bytes) k ≡ Some (slot_at size bytes k)
slots_in-get size bytes k h =
    let inside : k < length (slots_in size bytes) = omega (arith, length-slots_in size bytes) in
    slice_get-get_or (slots_in size bytes) k [] inside ∙ ap Some (get_or-slots_in size bytes k [] h)

-- a slot lies wholly in its file
pub slot_within : (size : ℕ) (bytes : List ℕ) (k : ℕ) → k < length bytes / size
    → k * size + size ≤ length bytes
slot_within size bytes k h =
    let slots : (k + 1) * size ≤ length bytes / size * size = mul-le (k + 1) size (length bytes / size) size (omega arith) (omega arith) in
    omega (arith, slots, div-add-mod' (length bytes) size)

pub length-slot_at : (size : ℕ) (bytes : List ℕ) (k : ℕ) → 0 < size → k < length bytes / size
    → length (slot_at size bytes k) ≡ size
length-slot_at size bytes k _ h =
    length-take-le size (drop (k * size) bytes)
    (omega (arith, slot_within size bytes k h, length-drop (k * size) bytes))

pub slots_of-one : (size : ℕ) (bytes : List ℕ) → slots_of size (bytes ∷ []) ≡ slots_in size bytes
slots_of-one size bytes =
    ap (map (λ (slot : Slot). slot.bytes)) (append-nil (placed_in size 0 bytes))
    ∙ map-map (λ (slot : Slot). slot.bytes) (placed_slot size 0 bytes) (range_with_len 0 (length bytes / size))

-- a search from slot k on looks at slot k first
pub find-step : (p : List ℕ → Bool) (size : ℕ) (bytes : List ℕ) (k : ℕ) → k < length bytes / size
    → find p (drop k (slots_in size bytes))
    ≡ (if p (slot_at size bytes k) then Some (slot_at size bytes k) else find p (drop (k + 1) (slots_in size bytes)))
find-step p size bytes k h =
    let inside : k < length (slots_in size bytes) = omega (arith, length-slots_in size bytes) in
    let first : drop k (slots_in size bytes) ≡ get_or (slots_in size bytes) k [] ∷ drop (k + 1) (slots_in size bytes) =
    rw add-one (drop-cons (slots_in size bytes) k [] inside) in
    ap (find p) first
    ∙ ap (λ slot. find p (slot ∷ drop (k + 1) (slots_in size bytes))) (get_or-slots_in size bytes k [] h)

-- a search that has come past the last slot
pub find-end : (p : List ℕ → Bool) (size : ℕ) (bytes : List ℕ) (k : ℕ) → length bytes / size ≤ k
    → find p (drop k (slots_in size bytes)) ≡ None
find-end p size bytes k h =
    ap (find p) (drop_of_length-le (slots_in size bytes) (omega (arith, length-slots_in size bytes)))
