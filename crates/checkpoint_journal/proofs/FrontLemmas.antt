-- The front of an image, compared with an identity.
use Rattle.std.specs.Prelude.{slice_get}
use Rattle.std.proofs.Common.{◌≡◌, ◌≢◌, ◌∙◌, ◌⊎◌, inl, inr, ⊎_elim, ℕ, zero, suc, ◌+◌, ◌-◌, ◌<◌, ◌≤◌, min, Bool, true, false, not, eqb, List, [], ◌∷◌, length, get_or, take, drop, set, Option, Some, None, refl, sym, ap, subst, arith}
use Rattle.std.proofs.lemmas.List.{length-take, length-drop, length-take-le, get_or-take, get_or-drop, get_or-set_same, get_or-set_other}
use Rattle.std.proofs.lemmas.Grind.{same_number_lists}
use Rattle.std.proofs.lemmas.Bool.Decides.{nat_tests}
use Rattle.std.proofs.lemmas.Option.{slice_get_within}
use Rattle.piece_plan.specs.Epochs.{JobSizes, IsJob}
use Rattle.journal_image.specs.declared.difference.Differs.{Differs}
use Rattle.journal_image.specs.Image.{is_blank, IsIdentity, MayBeOld, begin}
use Rattle.journal_image.specs.Difference.{IsOurs, IsOfFront, IsDifference}
use Rattle.journal_image.proofs.FrontLemmas.{length-begin}
use Rattle.journal_image.proofs.DifferLemmas.{has_no_reading}
use Rattle.checkpoint_journal.specs.Front.{IsOursByte, IsOursAt, OursTo, OursUpTo, Compares}
use Rattle.checkpoint_journal.specs.Finding.{IsOther}

pub compares_of : (image : List ℕ) (first there n : ℕ) (part buffer : List ℕ) → there ≡ min (length image - (1 + first)) (length part) → length part ≤ length buffer
    → ((k : ℕ) → k < length buffer → get_or buffer k 0 ≡ get_or image (1 + first + k) 0)
    → n ≤ there
    → ((k : ℕ) → k < n → IsOursByte (first + k) (get_or buffer k 0) (get_or (take there part) k 0))
    → (n < there → ¬ IsOursByte (first + n) (get_or buffer n 0) (get_or (take there part) n 0))
    → Compares image first part n
compares_of image first there n part buffer is fits bytes within same other = record {
  room = λ inside. omega arith;
  same = λ k below.
      let in_there : k < there = omega arith in
      let in_buffer : k < length buffer = omega arith in
      rw (sym (bytes k in_buffer), sym (get_or-take there part k 0 in_there)) (same k below);
  other = λ in_part in_image ours.
      let below : n < there = omega arith in
      let in_buffer : n < length buffer = omega arith in
      other below (rw (bytes n in_buffer, get_or-take there part n 0 below) ours);
}

pub ours_none : (id image : List ℕ) → 1 ≤ length image → OursTo id image 0
ours_none id image some = record { within = omega arith; room = omega arith; same = λ k below. absurd (omega arith) }

part_at : (id : List ℕ) (done count k : ℕ) → k < count → get_or (take count (drop done id)) k 0 ≡ get_or id (done + k) 0
part_at id done count k below = get_or-take count (drop done id) k 0 below ∙ get_or-drop done id k 0

length_part : (id : List ℕ) (done count : ℕ) → done + count ≤ length id → length (take count (drop done id)) ≡ count
length_part id done count within = omega (arith, length-take count (drop done id), length-drop done id)

lt_or_le : (a b : ℕ) → (a < b) ⊎ (b ≤ a)
lt_or_le a b = grind arith

-- n bytes of a part more
pub ours_more : (id image : List ℕ) (done count n : ℕ) → done + count ≤ length id → n ≤ count → OursTo id image done → Compares image done (take count (drop done id)) n → OursTo id image (done + n)
ours_more id image done count n within some before part = record {
  within = omega arith;
  room = part.room before.room;
  same = λ k below. ⊎_elim
      (λ (early : k < done). before.same k early)
      (λ (late : done ≤ k).
      let place : 1 + done + (k - done) ≡ 1 + k = omega arith in
      let in_id : done + (k - done) ≡ k = omega arith in
      let in_n : k - done < n = omega arith in
      let in_count : k - done < count = omega arith in
      let here = part.same (k - done) in_n in
      let byte : get_or (take count (drop done id)) (k - done) 0 ≡ get_or id k 0 = part_at id done count (k - done) in_count ∙ ap (λ (j : ℕ). get_or id j 0) in_id in
      let there : get_or image (1 + done + (k - done)) 0 ≡ get_or image (1 + k) 0 = ap (λ (j : ℕ). get_or image j 0) place in
      moved (done + (k - done)) k _ _ _ _ in_id there byte here)
      (lt_or_le k done);
}
  where
    moved : (i j x y a b : ℕ) → i ≡ j → x ≡ y → a ≡ b → IsOursByte i x a → IsOursByte j y b
    moved i j x y a b p q r (inl same) = inl (sym q ∙ same ∙ r)
    moved i j x y a b p q r (inr both) = inr (sym p ∙ both.0, sym q ∙ both.1)

-- and then another byte
pub ours_up_to : (id image : List ℕ) (done count n : ℕ) → done + count ≤ length id → n < count → OursTo id image done → Compares image done (take count (drop done id)) n → OursUpTo id image (1 + (done + n))
ours_up_to id image done count n within short before part =
    let all : OursTo id image (done + n) = ours_more id image done count n within (omega arith) before part in
    let less : 1 + (done + n) - 1 ≡ done + n = omega arith in
    let in_part : n < length (take count (drop done id)) = omega (arith, length_part id done count within) in
    let place : 1 + (done + n) ≡ 1 + done + n = omega arith in
    record {
      some = omega arith;
      within = omega arith;
      before = subst (λ m. OursTo id image m) (sym less) all;
      other = λ inside ours.
          let there : 1 + done + n < length image = omega arith in
          part.other in_part there (moved _ _ _ _ _ _ less (ap (λ (j : ℕ). get_or image (1 + j) 0) less ∙ ap (λ (j : ℕ). get_or image j 0) place)
          (ap (λ (j : ℕ). get_or id j 0) less ∙ sym (part_at id done count n short)) ours);
    }
  where
    moved : (i j x y a b : ℕ) → i ≡ j → x ≡ y → a ≡ b → IsOursByte i x a → IsOursByte j y b
    moved i j x y a b p q r (inl same) = inl (sym q ∙ same ∙ r)
    moved i j x y a b p q r (inr both) = inr (sym p ∙ both.0, sym q ∙ both.1)

pub begun_of : (image : List ℕ) → 1 < length image → get_or image 0 0 ≡ 1 → is_blank image ≡ false
begun_of image long is_open = grind (arith, nat_tests)

pub blank_short : (image : List ℕ) → length image ≤ 1 → is_blank image ≡ true
blank_short image short = grind (arith, nat_tests)

pub blank_closed : (image : List ℕ) → get_or image 0 0 ≢ 1 → is_blank image ≡ true
blank_closed image shut = grind (arith, nat_tests)

eq_or_ne : (p q : ℕ) → (p ≡ q) ⊎ (p ≢ q)
eq_or_ne p q = grind arith

-- Where the version that stands in the image is another than the identity's, it is an old journal's.
abbrev pub is_old : List ℕ → List ℕ → Bool
is_old id image = not (eqb (get_or image 8 0) (get_or id 7 0))

old_differs : (n m : ℕ) → true ≡ not (eqb n m) → n ≢ m
old_differs n m e = grind (arith, nat_tests)

-- by that version each byte is the identity's or the old one's
byte_begin : (id image : List ℕ) (old : Bool) (k : ℕ) → 8 ≤ length id → old ≡ is_old id image → IsOursAt id image k → get_or image (suc k) 0 ≡ get_or (begin id old) (suc k) 0
byte_begin id image true k long version ours = ⊎_elim
    (λ (is : k ≡ 7).
    ap (λ (j : ℕ). get_or image (suc j) 0) is ∙ old_byte ours is ∙ sym (ap (λ (j : ℕ). get_or (set id 7 49) j 0) is ∙ get_or-set_same id 7 49 0 long))
    (λ (ne : k ≢ 7). other ours ne ∙ sym (get_or-set_other id 7 k 49 0 ne))
    (eq_or_ne k 7)
  where
    old_byte : IsOursAt id image k → k ≡ 7 → get_or image 8 0 ≡ 49
    old_byte (inl same) is =
        let here : get_or image 8 0 ≡ get_or id 7 0 = subst (λ (j : ℕ). get_or image (1 + j) 0 ≡ get_or id j 0) is same in
        absurd (old_differs (get_or image 8 0) (get_or id 7 0) version here)
    old_byte (inr both) is = subst (λ (j : ℕ). get_or image (1 + j) 0 ≡ 49) is both.1

    other : IsOursAt id image k → k ≢ 7 → get_or image (suc k) 0 ≡ get_or id k 0
    other (inl same) ne = let at : suc k ≡ 1 + k = omega arith in ap (λ (j : ℕ). get_or image j 0) at ∙ same
    other (inr both) ne = absurd (ne both.0)
byte_begin id image false k long version ours = new ours
  where
    new_means : (n m : ℕ) → false ≡ not (eqb n m) → n ≡ m
    new_means n m e = grind (arith, nat_tests)

    new : IsOursAt id image k → get_or image (suc k) 0 ≡ get_or id k 0
    new (inl same) = let at : suc k ≡ 1 + k = omega arith in ap (λ (j : ℕ). get_or image j 0) at ∙ same
    new (inr both) = subst (λ (j : ℕ). get_or image (suc j) 0 ≡ get_or id j 0) (sym both.0) (new_means (get_or image 8 0) (get_or id 7 0) version)

-- and then the identity's is a `2`
pub front_may : (id image : List ℕ) → IsIdentity id → OursTo id image (length id) → MayBeOld id (is_old id image)
front_may id image named ours old = which (ours.same 7 named.long) named.version
  where
    differs : get_or image 8 0 ≢ get_or id 7 0
    differs = old_differs (get_or image 8 0) (get_or id 7 0) (sym old)

    which : IsOursAt id image 7 → (get_or id 7 0 ≡ 50) ⊎ (get_or id 7 0 ≡ 49) → get_or id 7 0 ≡ 50
    which ours (inl new) = new
    which (inl same) (inr one) = absurd (differs same)
    which (inr both) (inr one) = absurd (differs (both.1 ∙ sym one))

pub front_begin : (id image : List ℕ) (old : Bool) → IsIdentity id → old ≡ is_old id image → get_or image 0 0 ≡ 1 → OursTo id image (length id) → take (1 + length id) image ≡ begin id old
front_begin id image old named version is_open ours =
    same_number_lists (take (1 + length id) image) (begin id old) (length-take-le (1 + length id) image (omega (arith, ours.room)) ∙ sym (length-begin id old)) (λ i lt.
    let below : i < 1 + length id = omega (arith, length-take-le (1 + length id) image (omega (arith, ours.room))) in
    get_or-take (1 + length id) image i 0 below ∙ place i below)
  where
    place : (i : ℕ) → i < 1 + length id → get_or image i 0 ≡ get_or (begin id old) i 0
    place zero below = is_open
    place (suc i) below = byte_begin id image old i named.long version (ours.same i (omega arith))

pub slice_get_inside : (xs : List ℕ) (i : ℕ) → i < length xs → slice_get xs i ≡ Some (get_or xs i 0)
slice_get_inside [] i inside = absurd (omega arith)
slice_get_inside (x ∷ xs) zero inside = refl
slice_get_inside (x ∷ xs) (suc i) inside = slice_get_inside xs i (omega arith)

pub slice_get_past : (xs : List ℕ) (i : ℕ) → length xs ≤ i → slice_get xs i ≡ None
slice_get_past [] i past = refl
slice_get_past (x ∷ xs) zero past = absurd (omega arith)
slice_get_past (x ∷ xs) (suc i) past = slice_get_past xs i (omega arith)

some_same : (a b : ℕ) → Some a ≡ Some b → a ≡ b
some_same a b e = cc

-- the byte behind so many that are ours is the first that differs
difference_behind : (id image : List ℕ) (j : ℕ) (kept : Option ℕ) → get_or image 0 0 ≡ 1 → j < length id → OursTo id image j → (suc j < length image → ¬ IsOursAt id image j) → kept ≡ slice_get image (suc j)
    → IsOfFront id image record { at = suc j; kept = kept; ours = Some (get_or id j 0) }
difference_behind id image j kept is_open inside before other is = record {
  inside = omega arith;
  same = λ k below. same k below;
  other = λ ours. differs ours;
  kept = is;
  ours = sym (slice_get_inside id j inside);
}
  where
    same : (k : ℕ) → k < suc j → IsOurs id image k
    same zero below = inl (slice_get_inside image 0 (omega (arith, before.room)) ∙ ap (λ (b : ℕ). Some b) is_open)
    same (suc k) below = stands (before.same k (omega arith))
      where
        at : 1 + k ≡ suc k
        at = omega arith

        there : slice_get image (suc k) ≡ Some (get_or image (suc k) 0)
        there = slice_get_inside image (suc k) (omega (arith, before.room))

        stands : IsOursAt id image k → IsOurs id image (suc k)
        stands (inl byte) = inl (there ∙ ap (λ (b : ℕ). Some b) (ap (λ (i : ℕ). get_or image i 0) (sym at) ∙ byte) ∙ sym (slice_get_inside id k (omega arith)))
        stands (inr both) = inr (omega (arith, both.0), there ∙ ap (λ (b : ℕ). Some b) (ap (λ (i : ℕ). get_or image i 0) (sym at) ∙ both.1))

    differs : IsOurs id image (suc j) → ⊥
    differs (inl byte) =
        let got : slice_get image (suc j) ≡ Some (get_or id j 0) = byte ∙ slice_get_inside id j inside in
        let there = slice_get_within image (suc j) (get_or id j 0) got in
        let at : 1 + j ≡ suc j = omega arith in
        other there (inl (ap (λ (i : ℕ). get_or image i 0) at ∙ some_same _ _ (sym (slice_get_inside image (suc j) there) ∙ got)))
    differs (inr both) =
        let there = slice_get_within image (suc j) 49 both.1 in
        let at : 1 + j ≡ suc j = omega arith in
        other there (inr (omega (arith, both.0), ap (λ (i : ℕ). get_or image i 0) at ∙ some_same _ _ (sym (slice_get_inside image (suc j) there) ∙ both.1)))

pub difference_front : (id image : List ℕ) (at : ℕ) (kept : Option ℕ) → get_or image 0 0 ≡ 1 → OursUpTo id image at → kept ≡ slice_get image at
    → IsOfFront id image record { at = at; kept = kept; ours = Some (get_or id (at - 1) 0) }
difference_front id image at kept is_open first is =
    let place : suc (at - 1) ≡ at = omega (arith, first.some) in
    let here = difference_behind id image (at - 1) kept is_open (omega (arith, first.some, first.within)) first.before (λ inside. first.other (omega arith)) (is ∙ ap (slice_get image) (sym place)) in
    subst (λ (n : ℕ). IsOfFront id image record { at = n; kept = kept; ours = Some (get_or id (at - 1) 0) }) place here

-- so the image is another's
pub found_other : (id : List ℕ) (job : JobSizes) (image : List ℕ) (d : Differs) → IsIdentity id → IsJob job → 1 < length image → get_or image 0 0 ≡ 1 → IsDifference id job image d → IsOther id job image d
found_other id job image d named is long is_open difference = record {
  begun = begun_of image long is_open;
  unread = has_no_reading id job image named is d difference;
  place = difference;
}
