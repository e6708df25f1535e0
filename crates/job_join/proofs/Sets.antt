-- Sets of names.
use Rattle.std.proofs.Common.{◌≡◌, ℕ, ◌+◌, ◌<◌, Bool, true, false, cond, List, [], ◌∷◌, take, length, get_or, None, Some, Option, ap, refl, sym, ◌∙◌, bytes_eq, is_some, ◌||◌, slice_get, map, ◌++◌, arith}
use Rattle.std.specs.List.{list_any}
use Rattle.std.proofs.lemmas.List.{get_or-map, length-map, map_more}
use Rattle.std.proofs.lemmas.List.Folds.{list_any_more}
use Rattle.std.proofs.lemmas.Option.{slice_get_within, get_or_from_slice_get}
use Rattle.std.proofs.lemmas.Slice.Eq.{bytes_eq-Decides}
use Rattle.named_list.specs.Named.{named, names, put}

-- what stands under a name after one more is put there
pub named-put : {A : Type 0} (xs : List (List ℕ × A)) (name q : List ℕ) (thing : A) → named (put xs name thing) q ≡ cond (bytes_eq name q) (Some thing) (named xs q)
named-put [] name q thing = refl
named-put {A} (x ∷ xs) name q thing = by (bytes_eq x.0 name) refl (named-put xs name q thing)
  where
    by : (b : Bool) → bytes_eq x.0 name ≡ b → named (put xs name thing) q ≡ cond (bytes_eq name q) (Some thing) (named xs q)
        → named (cond b ((x.0, thing) ∷ xs) (x ∷ put xs name thing)) q ≡ cond (bytes_eq name q) (Some thing) (cond (bytes_eq x.0 q) (Some x.1) (named xs q))
    by true e rest =
        let same : x.0 ≡ name = (bytes_eq-Decides x.0 name).0 e in
        let equal : bytes_eq x.0 q ≡ bytes_eq name q = ap (λ n. bytes_eq n q) same in
        twice (bytes_eq x.0 q) (bytes_eq name q) equal
      where
        twice : (a b : Bool) → a ≡ b → cond a (Some thing) (named xs q) ≡ cond b (Some thing) (cond a (Some x.1) (named xs q))
        twice true true e = refl
        twice true false e = absurd cc
        twice false true e = absurd cc
        twice false false e = refl
    by false e rest = other (bytes_eq x.0 q) (bytes_eq name q) refl refl
      where
        other : (a b : Bool) → bytes_eq x.0 q ≡ a → bytes_eq name q ≡ b → cond a (Some x.1) (named (put xs name thing) q) ≡ cond b (Some thing) (cond a (Some x.1) (named xs q))
        other true true ea eb =
            let one : x.0 ≡ q = (bytes_eq-Decides x.0 q).0 ea in
            let two : name ≡ q = (bytes_eq-Decides name q).0 eb in
            let equal : bytes_eq x.0 name ≡ true = (bytes_eq-Decides x.0 name).1 (one ∙ sym two) in
            absurd cc
        other true false ea eb = refl
        other false true ea eb = rest ∙ (λ i. cond (eb i) (Some thing) (named xs q))
        other false false ea eb = rest ∙ (λ i. cond (eb i) (Some thing) (named xs q))

pub is_some_put : (xs ys : List (List ℕ × Unit {0})) (name q : List ℕ) → ys ≡ put xs name tt → is_some (named ys q) ≡ (is_some (named xs q) || bytes_eq name q)
is_some_put xs ys name q is =
    ap (λ zs. is_some (named zs q)) is ∙ ap is_some (named-put xs name q tt) ∙ by (bytes_eq name q) (named xs q)
  where
    by : (b : Bool) (o : Option (Unit {0})) → is_some (cond b (Some tt) o) ≡ (is_some o || b)
    by true None = refl
    by true (Some x) = refl
    by false None = refl
    by false (Some x) = refl

-- a name is among those of some things where a thing stands under it
pub any-names : {A : Type 0} (xs : List (List ℕ × A)) (name : List ℕ) → list_any (λ other. bytes_eq other name) (names xs) ≡ is_some (named xs name)
any-names [] name = refl
any-names {A} (x ∷ xs) name = by (bytes_eq x.0 name) (any-names xs name)
  where
    by : (b : Bool) → list_any (λ other. bytes_eq other name) (names xs) ≡ is_some (named xs name)
        → (b || list_any (λ other. bytes_eq other name) (names xs)) ≡ is_some (cond b (Some x.1) (named xs name))
    by true rest = refl
    by false rest = rest

-- the name at a place
pub get_or-names : {A : Type 0} (xs : List (List ℕ × A)) (i : ℕ) (x : List ℕ × A) (d : List ℕ) → slice_get xs i ≡ Some x → get_or (names xs) i d ≡ x.0
get_or-names {A} xs i x d is =
    get_or-map (λ (y : List ℕ × A). y.0) xs i x d (slice_get_within xs i x is) ∙ ap (λ (y : List ℕ × A). y.0) (get_or_from_slice_get xs i x x is)

-- whether one of some things passes a test, one more of them
pub any-turn : {X : Type 0} (p : X → Bool) (start : Bool) (xs : List X) (i : ℕ) (x : X) (a b : Bool) → i < length xs → x ≡ get_or xs i x
    → a ≡ (start || list_any p (take i xs)) → b ≡ (a || p x) → b ≡ (start || list_any p (take (i + 1) xs))
any-turn p start xs i x a b less is so_far new =
    new ∙ ap (λ t. t || p x) so_far ∙ by start (list_any p (take i xs)) ∙ ap (λ y. start || (list_any p (take i xs) || p y)) is
    ∙ ap (λ t. start || t) (sym (list_any_more p xs i x less))
  where
    by : (s t : Bool) → ((s || t) || p x) ≡ (s || (t || p x))
    by true t = refl
    by false t = refl

pub any-map : {X Y : Type 0} (p : Y → Bool) (h : X → Y) (xs : List X) → list_any p (map h xs) ≡ list_any (λ x. p (h x)) xs
any-map p h [] = refl
any-map p h (x ∷ xs) = ap (λ t. p (h x) || t) (any-map p h xs)

-- what is made of the names, one more of them
pub map-names : {A B : Type 0} (f : List ℕ → B) (xs : List (List ℕ × A)) (i : ℕ) (x : List ℕ × A) (ys zs : List B) → slice_get xs i ≡ Some x → ys ≡ map f (take i (names xs)) → zs ≡ ys ++ f x.0 ∷ []
    → zs ≡ map f (take (i + 1) (names xs))
map-names {A} f xs i x ys zs is so_far new =
    let less : i < length xs = slice_get_within xs i x is in
    let long : length (names xs) ≡ length xs = length-map xs (λ (y : List ℕ × A). y.0) in
    let here : get_or (names xs) i x.0 ≡ x.0 = get_or-names xs i x x.0 is in
    new ∙ ap (λ front. front ++ f x.0 ∷ []) so_far
    ∙ ap (λ n. map f (take i (names xs)) ++ f n ∷ []) (sym here)
    ∙ sym (map_more f (names xs) i x.0 (omega arith))
