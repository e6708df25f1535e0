-- The values of rows that grow.
use Rattle.std.proofs.Common.{◌≡◌, ℕ, ◌+◌, ◌<◌, List, [], ◌∷◌, ◌++◌, length, get_or, map, None, sym, subst, ap, ◌∙◌, arith, inl, inr, length-append}
use Rattle.std.proofs.lemmas.Bool.{cases_lt}
use Rattle.std.proofs.lemmas.List.{get_or_append_left, get_or_push, get_or-map}
use Rattle.corr_model.specs.Cell.{Value}
use Rattle.packed_values.specs.Words.{AreWords, IsWord}

pub values-before : (value : ℕ → Value) (xs ys : List ℕ) (k : ℕ) → k < length xs → get_or (map value (xs ++ ys)) k None ≡ get_or (map value xs) k None
values-before value xs ys k lt =
    let inside : k < length (xs ++ ys) = omega (arith, lt, length-append xs ys) in
    get_or-map value (xs ++ ys) k 0 None inside ∙ ap value (get_or_append_left xs ys 0 k lt) ∙ sym (get_or-map value xs k 0 None lt)

-- one value more
pub value-here : (value : ℕ → Value) (xs : List ℕ) (x n : ℕ) → length xs ≡ n → get_or (map value (xs ++ x ∷ [])) n None ≡ value x
value-here value xs x n e =
    let inside : n < length (xs ++ x ∷ []) = omega (arith, e, length-append xs (x ∷ [])) in
    get_or-map value (xs ++ x ∷ []) n 0 None inside ∙ ap value (get_or_push xs x 0 n e)

pub words-more : (xs : List ℕ) (x : ℕ) → AreWords xs → IsWord x → AreWords (xs ++ x ∷ [])
words-more xs x are is k lt =
    let long : length (xs ++ x ∷ []) ≡ length xs + 1 = length-append xs (x ∷ []) in
    elim (cases_lt k (length xs)) [
      | inl before ↦ subst IsWord (sym (get_or_append_left xs (x ∷ []) 0 k before)) (are k before)
      | inr past ↦
          let here : length xs ≡ k = omega (arith, lt, long) in
          subst IsWord (sym (get_or_push xs x 0 k here)) is
    ]
