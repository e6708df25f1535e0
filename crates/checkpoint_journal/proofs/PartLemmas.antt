-- The front of a part's journal.
use Rattle.std.proofs.Common.{◌≡◌, ◌∙◌, inl, inr, ℕ, ◌+◌, ◌-◌, ◌<◌, ◌≤◌, false, not, eqb, List, ◌∷◌, length, get_or, take, drop, refl, ap, arith}
use Rattle.std.proofs.lemmas.Bool.Decides.{nat_tests}
use Rattle.byteorder.specs.Endian.{little_from}
use Rattle.journal_image.specs.Image.{IsIdentity}
use Rattle.journal_image.specs.Difference.{end_of}
use Rattle.checkpoint_journal.specs.Front.{IsOursAt, OursTo}
use Rattle.checkpoint_journal.specs.Part.{part_mark, IsOfPart, IsNoPart, AreNumbers}
use Rattle.journal_image.proofs.Numbers.{little_from-places}
use Rattle.checkpoint_journal.proofs.NumberLemmas.{little_from-drop}
use Rattle.checkpoint_journal.proofs.FrontLemmas.{begun_of, front_begin}

mark_named : IsIdentity part_mark
mark_named = record { long = omega arith; version = inr refl }

-- the mark's version is an old journal's, so no other one stands there
mark_version : (image : List ℕ) → IsOursAt part_mark image 7 → get_or image 8 0 ≡ 49
mark_version image (inl byte) = byte
mark_version image (inr both) = both.1

not_old : (n : ℕ) → n ≡ 49 → false ≡ not (eqb n 49)
not_old n is = grind (arith, nat_tests)

part_front : (image : List ℕ) → get_or image 0 0 ≡ 1 → OursTo part_mark image (length part_mark) → take 9 image ≡ 1 ∷ part_mark
part_front image is_open ours = front_begin part_mark image false mark_named (not_old (get_or image 8 0) (mark_version image (ours.same 7 (omega arith)))) is_open ours

-- it ends behind the mark
pub part_cut : (image : List ℕ) (len : ℕ) → len ≡ length image → 1 < len → len < 25 → get_or image 0 0 ≡ 1 → OursTo part_mark image (length part_mark) → IsNoPart image (end_of len)
part_cut image len is some short is_open ours = record {
  begun = begun_of image (omega arith) is_open;
  place = inr (record { front = part_front image is_open ours; short = omega arith; is = ap end_of is });
}

-- it is a part's
pub part_found : (image : List ℕ) (len from to : ℕ) → len ≡ length image → 1 < len → 25 ≤ len → get_or image 0 0 ≡ 1 → OursTo part_mark image (length part_mark) → AreNumbers image from to → IsOfPart image from to
part_found image len from to is some long is_open ours numbers = record {
  begun = begun_of image (omega arith) is_open;
  long = omega arith;
  front = part_front image is_open ours;
  from_is = numbers.0;
  to_is = numbers.1;
}

-- the two numbers, out of 16 bytes that stand behind the mark
numbers_there : (image bytes : List ℕ) → length bytes ≡ 16 → ((k : ℕ) → k < length bytes → get_or bytes k 0 ≡ get_or image (9 + k) 0) → AreNumbers image (little_from 0 8 bytes) (little_from 8 8 bytes)
numbers_there image bytes long same = (little_from-places 8 0 9 bytes image (λ k below. first k below), little_from-places 8 8 17 bytes image (λ k below. second k below))
  where
    first : (k : ℕ) → k < 8 → get_or bytes (0 + k) 0 ≡ get_or image (9 + k) 0
    first k below =
        let flat : 0 + k ≡ k = omega arith in
        ap (λ (j : ℕ). get_or bytes j 0) flat ∙ same k (omega arith)

    second : (k : ℕ) → k < 8 → get_or bytes (8 + k) 0 ≡ get_or image (17 + k) 0
    second k below =
        let there : 9 + (8 + k) ≡ 17 + k = omega arith in
        same (8 + k) (omega arith) ∙ ap (λ (j : ℕ). get_or image j 0) there

-- read by eight bytes each
pub numbers_read : (image bytes : List ℕ) (from to : ℕ) → length bytes ≡ 16 → from ≡ little_from 0 8 bytes → to ≡ little_from 0 8 (take 8 (drop 8 bytes))
    → ((k : ℕ) → k < length bytes → get_or bytes k 0 ≡ get_or image (9 + k) 0) → AreNumbers image from to
numbers_read image bytes from to long first second same =
    let there = numbers_there image bytes long same in
    let rest : 8 ≡ length bytes - 8 = omega arith in
    (first ∙ there.0, second ∙ ap (λ (n : ℕ). little_from 0 8 (take n (drop 8 bytes))) rest ∙ little_from-drop 8 8 bytes ∙ there.1)
