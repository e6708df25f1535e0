-- The slots of a station's files stand in the order of their places.
use Rattle.std.specs.Ordering.{nat_cmp, is_gt, ordering_then}
use Rattle.std.specs.List.{range_with_len}
use Rattle.std.proofs.Common.{◌≡◌, ◌∙◌, refl, ap, ℕ, ◌+◌, ◌-◌, ◌*◌, ◌/◌, ◌<◌, ◌≤◌, ⊎_elim, false, List, [], ◌∷◌, ◌++◌, length, get_or, arith}
use Rattle.std.proofs.lemmas.Bool.{cases_lt}
use Rattle.std.proofs.lemmas.Bool.Decides.{nat_tests}
use Rattle.std.proofs.lemmas.List.{get_or_append_left, get_or-append_right, length-append, length-map}
use Rattle.std.proofs.lemmas.List.FromFn.{get_or-map-range_with_len, length-range_with_len}
use Rattle.std.proofs.lemmas.Nat.{mul-le}
use Rattle.corr_model.specs.Slots.{Slot, placed_slot, placed_in, placed_from, station_slots}
use Rattle.frame_index.specs.FrameOrder.{place_cmp}
use Rattle.frame_index.specs.Indexed.{place_of_slot}
use Rattle.frame_index.specs.SlotOrder.{FollowOn}

-- a slot that does not stand behind another
abbrev IsNotBehind : Slot → Slot → Type 0
IsNotBehind a b = is_gt (place_cmp (place_of_slot a) (place_of_slot b)) ≡ false

not_behind : (f g a b : ℕ) → f ≤ g → (f ≡ g → a ≤ b) → is_gt (ordering_then (nat_cmp f g) (nat_cmp a b)) ≡ false
not_behind f g a b files places = grind (arith, nat_tests)

follow-append : (xs ys : List Slot) → FollowOn xs → FollowOn ys
    → ((i j : ℕ) (d : Slot) → i < length xs → j < length ys → IsNotBehind (get_or xs i d) (get_or ys j d))
    → FollowOn (xs ++ ys)
follow-append xs ys first second between i j d h inside =
    ⊎_elim
    (λ low. rw (get_or_append_left xs ys d i (omega arith), get_or_append_left xs ys d j low) (first i j d h low))
    (λ high. ⊎_elim
    (λ low. rw (get_or_append_left xs ys d i low, get_or-append_right xs ys (length xs) j d refl high)
    (between i (j - length xs) d low (omega (arith, long))))
    (λ both. rw (get_or-append_right xs ys (length xs) i d refl both, get_or-append_right xs ys (length xs) j d refl high)
    (second (i - length xs) (j - length xs) d (omega arith) (omega (arith, long))))
    (cases_lt i (length xs)))
    (cases_lt j (length xs))
  where
    long : length (xs ++ ys) ≡ length xs + length ys
    long = length-append xs ys

-- ---- the slots of one file

in_file : (size file : ℕ) (bytes : List ℕ) (i : ℕ) (d : Slot) → i < length (placed_in size file bytes)
    → get_or (placed_in size file bytes) i d ≡ placed_slot size file bytes i
in_file size file bytes i d inside =
    let long : length (placed_in size file bytes) ≡ length (range_with_len 0 (length bytes / size)) = length-map (range_with_len 0 (length bytes / size)) (placed_slot size file bytes) in
    get_or-map-range_with_len (placed_slot size file bytes) 0 (length bytes / size) i i d (omega (arith, long, length-range_with_len 0 (length bytes / size))) (omega arith)

follow-in : (size file : ℕ) (bytes : List ℕ) → FollowOn (placed_in size file bytes)
follow-in size file bytes i j d h inside =
    rw (in_file size file bytes i d (omega arith), in_file size file bytes j d inside)
    (not_behind file file (i * size) (j * size) (omega arith) (λ e. mul-le i size j size (omega arith) (omega arith)))

-- ---- those of all files

from_file : (size file : ℕ) (files : List (List ℕ)) (i : ℕ) (d : Slot) → i < length (placed_from size file files)
    → file ≤ (get_or (placed_from size file files) i d).file
from_file size file [] i d inside = absurd (omega arith)
from_file size file (bytes ∷ files) i d inside =
    let here : List Slot = placed_in size file bytes in
    let rest : List Slot = placed_from size (file + 1) files in
    let long : length (here ++ rest) ≡ length here + length rest = length-append here rest in
    ⊎_elim
    (λ low.
    let read : (get_or (here ++ rest) i d).file ≡ file = ap (λ (s : Slot). s.file) (get_or_append_left here rest d i low ∙ in_file size file bytes i d low) in
    omega (arith, read))
    (λ high.
    let read : (get_or (here ++ rest) i d).file ≡ (get_or rest (i - length here) d).file = ap (λ (s : Slot). s.file) (get_or-append_right here rest (length here) i d refl high) in
    omega (arith, read, from_file size (file + 1) files (i - length here) d (omega (arith, long))))
    (cases_lt i (length here))

follow-from : (size file : ℕ) (files : List (List ℕ)) → FollowOn (placed_from size file files)
follow-from size file [] = λ i j d h inside. absurd (omega arith)
follow-from size file (bytes ∷ files) =
    follow-append (placed_in size file bytes) (placed_from size (file + 1) files) (follow-in size file bytes) (follow-from size (file + 1) files)
    (λ i j d low high.
    let after = from_file size (file + 1) files j d high in
    rw (in_file size file bytes i d low)
    (not_behind file (get_or (placed_from size (file + 1) files) j d).file (i * size) (get_or (placed_from size (file + 1) files) j d).at (omega (arith, after)) (λ e. absurd (omega (arith, after)))))

pub slots-follow : (size : ℕ) (files : List (List ℕ)) → FollowOn (station_slots size files)
slots-follow size files = follow-from size 0 files
