-- Lists by their length.
use Rattle.std.proofs.Common.{◌≡◌, ℕ, ◌+◌, ◌<◌, List, [], ◌∷◌, ◌++◌, length, get_or, map, take, drop, slice_get, Some, None, arith, refl, sym, ap, ◌∙◌, add-one}
use Rattle.std.proofs.Math.Seq.{drop-cons}
use Rattle.std.proofs.lemmas.List.{map_more, map_push}
use Rattle.std.proofs.lemmas.Option.{get_or_from_slice_get}
use Rattle.vex_schedule.specs.Quantities.{cut, number_and_unit}
use Rattle.vex_schedule.specs.Values.{sole}

pub sole-one : {A : Type 0} (xs : List A) (x : A) → length xs ≡ 1 → x ≡ get_or xs 0 x → Some x ≡ sole xs
unfolding sole
sole-one [] x long is = absurd (omega (arith, long))
sole-one (y ∷ []) x long is = cc
sole-one (y ∷ z ∷ xs) x long is = absurd (omega (arith, long))

pub sole-other : {A : Type 0} (xs : List A) → (length xs ≡ 1 → ⊥) → None ≡ sole xs
unfolding sole
sole-other [] long = refl
sole-other (y ∷ []) long = absurd (long refl)
sole-other (y ∷ z ∷ xs) long = refl

pub number_and_unit-one : (value : List (List ℕ)) (x : List ℕ) → length value ≡ 1 → x ≡ get_or value 0 x → number_and_unit value ≡ Some (cut x)
unfolding number_and_unit
number_and_unit-one [] x long is = absurd (omega (arith, long))
number_and_unit-one (y ∷ []) x long is = let same : y ≡ x = sym is in ap (λ z. Some (cut z)) same
number_and_unit-one (y ∷ z ∷ ys) x long is = absurd (omega (arith, long))

pub number_and_unit-two : (value : List (List ℕ)) (x y : List ℕ) → length value ≡ 2 → x ≡ get_or value 0 x → y ≡ get_or value 1 y → number_and_unit value ≡ Some (x, y)
unfolding number_and_unit
number_and_unit-two [] x y long is its = absurd (omega (arith, long))
number_and_unit-two (a ∷ []) x y long is its = absurd (omega (arith, long))
number_and_unit-two (a ∷ b ∷ []) x y long is its =
    let one : a ≡ x = sym is in
    let two : b ≡ y = sym its in
    cc
number_and_unit-two (a ∷ b ∷ c ∷ cs) x y long is its = absurd (omega (arith, long))

pub number_and_unit-other : (value : List (List ℕ)) → (length value ≡ 1 → ⊥) → (length value ≡ 2 → ⊥) → number_and_unit value ≡ None
unfolding number_and_unit
number_and_unit-other [] one two = refl
number_and_unit-other (a ∷ []) one two = absurd (one refl)
number_and_unit-other (a ∷ b ∷ []) one two = absurd (two refl)
number_and_unit-other (a ∷ b ∷ c ∷ cs) one two = refl

-- what stands from a place on, if a thing is there
pub drop-there : {A : Type 0} (xs : List A) (i : ℕ) (x : A) → i < length xs → slice_get xs i ≡ Some x → drop i xs ≡ x ∷ drop (i + 1) xs
drop-there xs i x less is =
    let here : get_or xs i x ≡ x = get_or_from_slice_get xs i x x is in
    rw (add-one, drop-cons xs i x less, here) refl

-- some things by their names, one more of them
pub map-take_more : {A B : Type 0} (f : A → B) (xs : List A) (i : ℕ) (x : A) → i < length xs → slice_get xs i ≡ Some x
    → map f (take (i + 1) xs) ≡ map f (take i xs) ++ f x ∷ []
map-take_more f xs i x less is =
    let here : get_or xs i x ≡ x = get_or_from_slice_get xs i x x is in
    map_more f xs i x less ∙ ap (λ y. map f (take i xs) ++ f y ∷ []) here

-- two lists that say the same, one more of each
pub same-push : {A B C : Type 0} (f : A → C) (g : B → C) (ones more : List A) (a : A) (xs : List B) (i : ℕ) (x : B) → map f ones ≡ map g (take i xs) → f a ≡ g x
    → i < length xs → slice_get xs i ≡ Some x → more ≡ ones ++ a ∷ [] → map f more ≡ map g (take (i + 1) xs)
same-push f g ones more a xs i x so_far same less is pushed =
    ap (map f) pushed
    ∙ map_push f ones a
    ∙ ap (λ front. front ++ f a ∷ []) so_far
    ∙ ap (λ last. map g (take i xs) ++ last ∷ []) same
    ∙ sym (map-take_more g xs i x less is)
