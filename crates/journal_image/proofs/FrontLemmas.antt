-- The front of an image: the head gate and the identity.
use Rattle.std.proofs.Common.{◌≡◌, ◌∙◌, ℕ, ◌+◌, ◌<◌, Bool, true, false, if◌then◌else◌, List, ◌++◌, length, get_or, set, refl, sym, ap, arith, length-append}
use Rattle.std.proofs.lemmas.Bool.Decides.{nat_tests}
use Rattle.std.proofs.lemmas.List.{length-set, get_or_append_left, get_or-set_same}
use Rattle.piece_plan.specs.Epochs.{JobSizes}
use Rattle.journal_image.specs.Image.{is_blank, IsIdentity, MayBeOld, begin, Reading, Reads}
use Rattle.journal_image.proofs.Numbers.{same_front}

pub length-begin : (id : List ℕ) (old : Bool) → length (begin id old) ≡ 1 + length id
length-begin id true = let e = length-set id 7 49 in omega (arith, e)
length-begin id false = omega arith

version : (id x : List ℕ) (old : Bool) → IsIdentity id → get_or (begin id old ++ x) 8 0 ≡ (if old then 49 else get_or id 7 0)
version id x true is = get_or_append_left (set id 7 49) x 0 7 (omega (arith, length-set id 7 49, is.long)) ∙ get_or-set_same id 7 49 0 (omega (arith, is.long))
version id x false is = get_or_append_left id x 0 7 (omega (arith, is.long))

-- the version tells whether a journal is an old one
pub same_begin : (id x y : List ℕ) (a b : Bool) → IsIdentity id → MayBeOld id a → MayBeOld id b → begin id a ++ x ≡ begin id b ++ y → (a ≡ b) × (x ≡ y)
same_begin id x y a b is may may' e = (
  kind a b may may' (sym (version id x a is) ∙ ap (λ (l : List ℕ). get_or l 8 0) e ∙ version id y b is),
  (same_front (begin id a) (begin id b) x y (length-begin id a ∙ sym (length-begin id b)) e).1,
)
  where
    kind : (p q : Bool) → MayBeOld id p → MayBeOld id q → ◌≡◌ {A = ℕ} (if p then 49 else get_or id 7 0) (if q then 49 else get_or id 7 0) → p ≡ q
    kind true true one other h = refl
    kind true false one other h = absurd (omega (arith, h, one refl))
    kind false true one other h = absurd (omega (arith, h, other refl))
    kind false false one other h = refl

begun_of : (image : List ℕ) → 1 < length image → get_or image 0 0 ≡ 1 → is_blank image ≡ false
begun_of image long is_open = grind (arith, nat_tests)

-- an image that reads is not blank
pub reads_begun : (id : List ℕ) (job : JobSizes) (image : List ℕ) (r : Reading) → IsIdentity id → Reads id job image r → is_blank image ≡ false
reads_begun id job image r named reads =
    begun_of image (omega (arith, ap length reads.is, length-append (begin id r.old) reads.bytes, length-begin id r.old, named.long))
    (ap (λ (l : List ℕ). get_or l 0 0) reads.is)
