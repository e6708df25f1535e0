-- What holds of each two elements of a list, and of one that is found in it.
use Rattle.std.specs.Prelude.{find}
use Rattle.std.proofs.Common.{◌≡◌, refl, zero, suc, Bool, true, false, cond, List, [], ◌∷◌, map, Some, is_some, All, AllPairs, arith}
use Rattle.std.proofs.lemmas.List.Elements.{All-head, All-tail, All-map}

module _ {X : Type 0} (R : X → X → Type 0) where
  pub AllPairs-nil : AllPairs R []
  AllPairs-nil i j d less within = absurd (omega arith)

  pub AllPairs-cons : (x : X) (xs : List X) → All (R x) xs → AllPairs R xs → AllPairs R (x ∷ xs)
  AllPairs-cons x xs first rest i zero d less within = absurd (omega arith)
  AllPairs-cons x xs first rest zero (suc j) d less within = first j d (omega arith)
  AllPairs-cons x xs first rest (suc i) (suc j) d less within = rest i j d (omega arith) (omega arith)

  pub AllPairs-first : (x : X) (xs : List X) → AllPairs R (x ∷ xs) → All (R x) xs
  AllPairs-first x xs all k d within = all zero (suc k) d (omega arith) (omega arith)

  pub AllPairs-rest : (x : X) (xs : List X) → AllPairs R (x ∷ xs) → AllPairs R xs
  AllPairs-rest x xs all i j d less within = all (suc i) (suc j) d (omega arith) (omega arith)

pub AllPairs-map : {X Y : Type 0} (R : X → X → Type 0) (f : Y → X) (ys : List Y) → AllPairs (λ x y. R (f x) (f y)) ys → AllPairs R (map f ys)
AllPairs-map R f [] all = AllPairs-nil R
AllPairs-map R f (y ∷ ys) all =
    AllPairs-cons R (f y) (map f ys) (All-map (R (f y)) f ys (AllPairs-first (λ x y. R (f x) (f y)) y ys all)) (AllPairs-map R f ys (AllPairs-rest (λ x y. R (f x) (f y)) y ys all))

-- what is found is one of the list, and passes
pub found : {X : Type 0} (p : X → Bool) (P : X → Type 0) (xs : List X) → All P xs → is_some (find p xs) ≡ true → (x : X) × P x × (p x ≡ true)
found p P [] all is = absurd cc
found {X} p P (x ∷ xs) all is = by (p x) refl is (found p P xs (All-tail P x xs all))
  where
    by : (b : Bool) → p x ≡ b → is_some (cond b (Some x) (find p xs)) ≡ true → (is_some (find p xs) ≡ true → (x : X) × P x × (p x ≡ true)) → (x : X) × P x × (p x ≡ true)
    by true passes is rest = (x, All-head P x xs all, passes)
    by false passes is rest = rest is
