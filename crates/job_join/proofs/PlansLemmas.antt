-- The lists of a plan.
use Rattle.std.proofs.Common.{◌≡◌, ℕ, ◌+◌, ◌<◌, nat_lt, Bool, true, false, cond, List, [], ◌∷◌, ◌++◌, map, filter, flat_map, take, length, get_or, None, Some, unwrap_or, slice_get, ap, refl, sym, subst, ◌∙◌, arith}
use Rattle.std.specs.List.{All, position, position_or_len}
use Rattle.std.proofs.lemmas.Bool.{ltb-true}
use Rattle.std.proofs.lemmas.List.{map-append, append-nil, append_assoc, take_more, map_more}
use Rattle.std.proofs.lemmas.List.Concat.{flat_map-append}
use Rattle.std.proofs.lemmas.List.Elements.{filter_more}
use Rattle.std.proofs.lemmas.Option.{slice_get_within, get_or_from_slice_get}
use Rattle.job_plan.specs.declared.plan.BaselinePlan.{BaselinePlan}
use Rattle.job_join.specs.declared.stands.Here.{Here}
use Rattle.job_join.specs.Planned.{pair_of, is_pair, pairs_with, pairs_in}

-- one more thing is made
pub map-turn : {X Y : Type 0} (f : X → Y) (xs : List X) (i : ℕ) (x : X) (ys zs : List Y) → slice_get xs i ≡ Some x → ys ≡ map f (take i xs) → zs ≡ ys ++ f x ∷ [] → zs ≡ map f (take (i + 1) xs)
map-turn f xs i x ys zs is so_far new =
    new ∙ ap (λ front. front ++ f x ∷ []) so_far ∙ ap (λ y. map f (take i xs) ++ f y ∷ []) (sym (get_or_from_slice_get xs i x x is)) ∙ sym (map_more f xs i x (slice_get_within xs i x is))

-- one more thing of a list is made, which is held under another name
pub map-next : {X Y : Type 0} (f : X → Y) (xs held : List X) (i : ℕ) (x : X) (y : Y) (ys zs : List Y) → held ≡ xs → i < length held → x ≡ get_or held i x
    → y ≡ f x → ys ≡ map f (take i xs) → zs ≡ ys ++ y ∷ [] → zs ≡ map f (take (i + 1) xs)
map-next f xs held i x y ys zs same less is made so_far new =
    let within : i < length xs = subst (λ ks. i < length ks) same less in
    let at : x ≡ get_or xs i x = is ∙ ap (λ ks. get_or ks i x) same in
    new ∙ ap (λ front. front ++ y ∷ []) so_far ∙ ap (λ z. map f (take i xs) ++ z ∷ []) (made ∙ ap f at) ∙ sym (map_more f xs i x within)

-- one more thing of a list is made, as a function of it says
pub map-onto : {X Y Z : Type 0} (g : Z → Y) (f : X → Y) (xs : List X) (i : ℕ) (x : X) (z : Z) (ps qs : List Z) → i < length xs → x ≡ get_or xs i x
    → g z ≡ f x → map g ps ≡ map f (take i xs) → qs ≡ ps ++ z ∷ [] → map g qs ≡ map f (take (i + 1) xs)
map-onto g f xs i x z ps qs less is made so_far new =
    map-next f xs xs i x (g z) (map g ps) (map g qs) refl less is made so_far (ap (map g) new ∙ map-append g ps (z ∷ []))

-- a thing of a list has what all have
pub All-held : {X : Type 0} (P : X → Type 0) (xs held : List X) (i : ℕ) (x : X) → All P xs → held ≡ xs → i < length held → x ≡ get_or held i x → P x
All-held P xs held i x all same less is =
    subst P (sym (is ∙ ap (λ ks. get_or ks i x) same)) (all i x (subst (λ ks. i < length ks) same less))

-- a place is less than a bound of the list
pub position-few : {X : Type 0} (p : X → Bool) (xs : List X) (most : ℕ) → length xs < most → unwrap_or (position p xs) 0 < most
position-few p xs most few = by (nat_lt (position_or_len p xs) (length xs)) refl
  where
    by : (b : Bool) → nat_lt (position_or_len p xs) (length xs) ≡ b → unwrap_or (cond b (Some (position_or_len p xs)) None) 0 < most
    by true less = omega (arith, ltb-true (position_or_len p xs) (length xs) less)
    by false past = omega arith

-- one more station is looked at
pub pairs-turn : (auto : Bool) (a : ℕ) (hs : List Here) (i : ℕ) (h : Here) (first ps qs : List BaselinePlan) → i < length hs → h ≡ get_or hs i h
    → ps ≡ first ++ pairs_with auto a (take i hs) → qs ≡ ps ++ cond (is_pair auto a h.number) (pair_of a h.number ∷ []) [] → qs ≡ first ++ pairs_with auto a (take (i + 1) hs)
pairs-turn auto a hs i h first ps qs less is so_far new =
    let p : Here → Bool = λ (x : Here). is_pair auto a x.number in
    let f : Here → BaselinePlan = λ (x : Here). pair_of a x.number in
    let more : filter p (take (i + 1) hs) ≡ filter p (take i hs) ++ cond (p h) (h ∷ []) [] = filter_more p hs i h less ∙ ap (λ x. filter p (take i hs) ++ cond (p x) (x ∷ []) []) (sym is) in
    new ∙ ap (λ front. front ++ cond (p h) (f h ∷ []) []) so_far
    ∙ append_assoc first (pairs_with auto a (take i hs)) (cond (p h) (f h ∷ []) [])
    ∙ ap (λ end. first ++ end) (ap (λ end. map f (filter p (take i hs)) ++ end) (one f (p h) h) ∙ sym (map-append f (filter p (take i hs)) (cond (p h) (h ∷ []) [])) ∙ ap (map f) (sym more))
  where
    one : (f : Here → BaselinePlan) (b : Bool) (h : Here) → cond b (f h ∷ []) [] ≡ map f (cond b (h ∷ []) [])
    one f true h = refl
    one f false h = refl

pub firsts-turn : (auto : Bool) (hs : List Here) (i : ℕ) (h : Here) (ps qs : List BaselinePlan) → i < length hs → h ≡ get_or hs i h
    → ps ≡ pairs_in auto hs (take i hs) → qs ≡ ps ++ pairs_with auto h.number hs → qs ≡ pairs_in auto hs (take (i + 1) hs)
firsts-turn auto hs i h ps qs less is so_far new =
    let f : Here → List BaselinePlan = λ (x : Here). pairs_with auto x.number hs in
    let more : take (i + 1) hs ≡ take i hs ++ h ∷ [] = take_more hs i h less ∙ ap (λ x. take i hs ++ x ∷ []) (sym is) in
    new ∙ ap (λ front. front ++ f h) so_far ∙ ap (λ end. pairs_in auto hs (take i hs) ++ end) (sym (append-nil (f h)))
    ∙ sym (flat_map-append f (take i hs) (h ∷ [])) ∙ ap (flat_map f) (sym more)
