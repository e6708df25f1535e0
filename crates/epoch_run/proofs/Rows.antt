-- Where the elements of lists stand that are put together of lists of one length.
use Rattle.std.specs.Prelude.{flat_map}
use Rattle.std.proofs.Common.{◌≡◌, ℕ, zero, suc, ◌+◌, ◌*◌, ◌<◌, List, [], ◌∷◌, ◌++◌, length, get_or, take, sym, ap, ◌∙◌, arith}
use Rattle.std.proofs.lemmas.List.{length-append, get_or_append_left, get_or-append-add, take_more}
use Rattle.std.proofs.lemmas.List.Concat.{flat_map-append}
use Rattle.std.proofs.lemmas.List.{append-nil}

module _ {A B : Type 0} (f : A → List B) (per : ℕ) (rows : (x : A) → length (f x) ≡ per) where
  pub length-rows : (xs : List A) → length (flat_map f xs) ≡ length xs * per
  length-rows [] = omega arith
  length-rows (x ∷ xs) = omega (arith, length-append (f x) (flat_map f xs), rows x, length-rows xs)

  pub get_or-rows : (xs : List A) (g l : ℕ) (e : A) (d : B) → g < length xs → l < per
      → get_or (flat_map f xs) (g * per + l) d ≡ get_or (f (get_or xs g e)) l d
  get_or-rows [] g l e d h k = absurd (omega (arith, h))
  get_or-rows (x ∷ xs) zero l e d h k =
      let place : zero * per + l ≡ l = omega arith in
      ap (λ (n : ℕ). get_or (f x ++ flat_map f xs) n d) place
      ∙ get_or_append_left (f x) (flat_map f xs) d l (omega (arith, k, rows x))
  get_or-rows (x ∷ xs) (suc g) l e d h k =
      let place : suc g * per + l ≡ length (f x) + (g * per + l) = omega (arith, rows x) in
      ap (λ (n : ℕ). get_or (f x ++ flat_map f xs) n d) place
      ∙ get_or-append-add (f x) (flat_map f xs) (g * per + l) d
      ∙ get_or-rows xs g l e d (omega (arith, h)) k

-- one list more
pub flat_map-more : {A B : Type 0} (f : A → List B) (xs : List A) (i : ℕ) (x : A) → i < length xs → x ≡ get_or xs i x
    → flat_map f (take (i + 1) xs) ≡ flat_map f (take i xs) ++ f x
flat_map-more f xs i x h is =
    ap (flat_map f) (take_more xs i x h)
    ∙ flat_map-append f (take i xs) (get_or xs i x ∷ [])
    ∙ ap (λ l. flat_map f (take i xs) ++ l) (append-nil (f (get_or xs i x)) ∙ ap f (sym is))
