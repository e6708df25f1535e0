-- First places in lists, and what stands there.
use Rattle.std.proofs.Common.{◌≡◌, ℕ, zero, suc, ◌+◌, ◌<◌, ◌≤◌, nat_lt, Bool, true, false, not, cond, List, [], ◌∷◌, ◌++◌, length, map, take, Option, Some, None, option_and_then, refl, ap, sym, ◌∙◌, ⊎_elim, arith}
use Rattle.std.specs.List.{slice_get, find, position, position_or_len}
use Rattle.std.proofs.lemmas.Bool.{cases_lt}
use Rattle.std.proofs.lemmas.Bool.Decides.{nat_tests}
use Rattle.std.proofs.lemmas.List.{length-map, take_more}
use Rattle.std.proofs.lemmas.List.Folds.{find_at}
use Rattle.std.proofs.lemmas.Option.{slice_get_past, slice_get_within, get_or_from_slice_get}
use Rattle.corr_model.specs.Cell.{Value}

-- the first place in a list is that in the list of the images
position_or_len-map : {X : Type 0} (p : ℕ → Bool) (f : X → ℕ) (xs : List X) → position_or_len p (map f xs) ≡ position_or_len (λ x. p (f x)) xs
position_or_len-map p f [] = refl
position_or_len-map p f (x ∷ xs) = ap (λ (rest : ℕ). cond (not (p (f x))) (1 + rest) 0) (position_or_len-map p f xs)

-- the first place, where there is one, and none where there is none
pub position-there : (p : ℕ → Bool) (xs : List ℕ) → position_or_len p xs < length xs → position p xs ≡ Some (position_or_len p xs)
position-there p xs there =
    let test : nat_lt (position_or_len p xs) (length xs) ≡ true = grind (arith, nat_tests) in
    ap (λ (b : Bool). cond b (Some (position_or_len p xs)) None) test

pub position-past : (p : ℕ → Bool) (xs : List ℕ) → length xs ≤ position_or_len p xs → position p xs ≡ None
position-past p xs past =
    let test : nat_lt (position_or_len p xs) (length xs) ≡ false = grind (arith, nat_tests) in
    ap (λ (b : Bool). cond b (Some (position_or_len p xs)) None) test

-- what a function gives of the item at a place, as the items are given to it or as they are found
pub option_and_then-map : {X Y : Type 0} (f : X → Option Y) (xs : List X) (i : ℕ)
    → option_and_then (λ (y : Option Y). y) (slice_get (map f xs) i) ≡ option_and_then f (slice_get xs i)
option_and_then-map f [] i = refl
option_and_then-map f (x ∷ xs) zero = refl
option_and_then-map f (x ∷ xs) (suc i) = option_and_then-map f xs i

-- what stands at the first place is what is found
pub option_and_then-position : {X : Type 0} (p : ℕ → Bool) (f : X → ℕ) (g : ℕ → Value) (h : X → Value) (xs : List X)
    → ((i : ℕ) → g i ≡ option_and_then h (slice_get xs i))
    → option_and_then g (position p (map f xs)) ≡ option_and_then h (find (λ x. p (f x)) xs)
option_and_then-position p f g h xs at =
    let place = position_or_len p (map f xs) in
    let found : find (λ x. p (f x)) xs ≡ slice_get xs (position_or_len p (map f xs)) =
    find_at (λ x. p (f x)) xs ∙ ap (slice_get xs) (sym (position_or_len-map p f xs)) in
    ⊎_elim
    (λ there. ap (option_and_then g) (position-there p (map f xs) there) ∙ at place ∙ ap (option_and_then h) (sym found))
    (λ past. ap (option_and_then g) (position-past p (map f xs) past)
    ∙ sym (ap (option_and_then h) (found ∙ slice_get_past xs place (omega (arith, length-map xs f)))))
    (cases_lt place (length (map f xs)))

-- one item more of a list
pub take-next : {X : Type 0} (xs : List X) (i : ℕ) (x : X) → slice_get xs i ≡ Some x → take (i + 1) xs ≡ take i xs ++ x ∷ []
take-next xs i x at =
    take_more xs i x (slice_get_within xs i x at) ∙ ap (λ one. take i xs ++ one ∷ []) (get_or_from_slice_get xs i x x at)

-- no item gives anything
pub option_and_then-none : {X : Type 0} (f : X → Value) (item : Option X) → ((x : X) → item ≡ Some x → f x ≡ None) → option_and_then f item ≡ None
option_and_then-none f None none = refl
option_and_then-none f (Some x) none = none x refl
