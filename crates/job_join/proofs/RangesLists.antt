-- What holds of each element, and of each two, in lists made from others.
use Rattle.std.specs.Prelude.{flat_map, filter_map, find}
use Rattle.std.specs.List.{cons_option, list_any, enumerate_from, position, position_or_len}
use Rattle.std.proofs.Common.{◌≡◌, ◌∙◌, sym, ap, ℕ, zero, suc, ◌+◌, ◌<◌, ◌≤◌, max, Bool, true, false, cond, not, nat_lt, ltb-false, List, [], ◌∷◌, ◌++◌, length, get_or, map, filter, fold, slice_get, Option, None, Some, is_some, IfSome, option_map, All, AllPairs, arith, refl}
use Rattle.std.proofs.lemmas.Bool.{or_from}
use Rattle.std.proofs.lemmas.List.Elements.{All-nil, All-cons, All-head, All-tail, All-append, All-map, All-filter, All-weaker}
use Rattle.std.proofs.lemmas.List.FromFn.{length-enumerate_from, get_or-enumerate_from}
pub use Rattle.job_plan.proofs.PairLemmas.{AllPairs-nil, AllPairs-cons, AllPairs-first, AllPairs-rest, AllPairs-map}
use Rattle.job_plan.proofs.PairLemmas.{found}
use Rattle.std.proofs.lemmas.Option.{slice_get-get_or, slice_get-map}

-- ---- each element

All-cons_option : {Y : Type 0} (P : Y → Type 0) (o : Option Y) (ys : List Y) → IfSome o P → All P ys → All P (cons_option o ys)
All-cons_option P None ys one all = all
All-cons_option P (Some y) ys one all = All-cons P y ys one all

module _ {X Y : Type 0} (P : Y → Type 0) where
  pub All-flat_map : (f : X → List Y) (xs : List X) → All (λ x. All P (f x)) xs → All P (flat_map f xs)
  All-flat_map f [] all = All-nil P
  All-flat_map f (x ∷ xs) all =
      All-append P (f x) (flat_map f xs) (All-head (λ x. All P (f x)) x xs all) (All-flat_map f xs (All-tail (λ x. All P (f x)) x xs all))

  pub All-filter_map : (h : X → Option Y) (xs : List X) → All (λ x. IfSome (h x) P) xs → All P (filter_map h xs)
  All-filter_map h [] all = All-nil P
  All-filter_map h (x ∷ xs) all =
      All-cons_option P (h x) (filter_map h xs) (All-head (λ x. IfSome (h x) P) x xs all) (All-filter_map h xs (All-tail (λ x. IfSome (h x) P) x xs all))

module _ {X : Type 0} (p : X → Bool) where
  -- what is found is one of the list, and passes
  pub find-All : (P : X → Type 0) (xs : List X) → All P xs → IfSome (find p xs) P
  find-All P [] all = tt
  find-All P (x ∷ xs) all = by (p x) (find-All P xs (All-tail P x xs all))
    where
      by : (b : Bool) → IfSome (find p xs) P → IfSome (cond b (Some x) (find p xs)) P
      by true rest = All-head P x xs all
      by false rest = rest

  pub find-passes : (xs : List X) (x : X) → find p xs ≡ Some x → p x ≡ true
  find-passes [] x is = absurd cc
  find-passes (y ∷ xs) x is = by (p y) refl is (find-passes xs x)
    where
      by : (b : Bool) → p y ≡ b → cond b (Some y) (find p xs) ≡ Some x → (find p xs ≡ Some x → p x ≡ true) → p x ≡ true
      by true passes found rest = let same : y ≡ x = cc in ap p (sym same) ∙ passes
      by false passes found rest = rest found

  -- where none is found none passes
  pub find-None : (xs : List X) → find p xs ≡ None → All (λ x. p x ≡ false) xs
  find-None [] none = All-nil (λ x. p x ≡ false)
  find-None (x ∷ xs) none = by (p x) refl none (find-None xs)
    where
      by : (b : Bool) → p x ≡ b → cond b (Some x) (find p xs) ≡ None → (find p xs ≡ None → All (λ x. p x ≡ false) xs) → All (λ x. p x ≡ false) (x ∷ xs)
      by true passes found rest = absurd cc
      by false passes found rest = All-cons (λ x. p x ≡ false) x xs passes (rest found)

  pub find-there : (xs : List X) (k : ℕ) (x : X) → slice_get xs k ≡ Some x → p x ≡ true → is_some (find p xs) ≡ true
  find-there [] k x is passes = absurd cc
  find-there (y ∷ xs) zero x is passes = let same : y ≡ x = cc in ap (λ b. is_some (cond b (Some y) (find p xs))) (ap p same ∙ passes)
  find-there (y ∷ xs) (suc k) x is passes = by (p y) (find-there xs k x is passes)
    where
      by : (b : Bool) → is_some (find p xs) ≡ true → is_some (cond b (Some y) (find p xs)) ≡ true
      by true rest = refl
      by false rest = rest

  -- where there is no first place none passes
  no_place : (xs : List X) → length xs ≤ position_or_len p xs → All (λ x. p x ≡ false) xs
  no_place [] none = All-nil (λ x. p x ≡ false)
  no_place (x ∷ xs) none = by (p x) refl none (no_place xs)
    where
      by : (b : Bool) → p x ≡ b → suc (length xs) ≤ cond (not b) (1 + position_or_len p xs) 0 → (length xs ≤ position_or_len p xs → All (λ x. p x ≡ false) xs) → All (λ x. p x ≡ false) (x ∷ xs)
      by true passes long rest = absurd (omega arith)
      by false passes long rest = All-cons (λ x. p x ≡ false) x xs passes (rest (omega arith))

  pub position-None : (xs : List X) → position p xs ≡ None → All (λ x. p x ≡ false) xs
  position-None xs none = no_place xs (by (nat_lt (position_or_len p xs) (length xs)) refl none)
    where
      by : (b : Bool) → nat_lt (position_or_len p xs) (length xs) ≡ b → cond b (Some (position_or_len p xs)) None ≡ None → length xs ≤ position_or_len p xs
      by true less is = absurd cc
      by false less is = ltb-false _ _ less

-- what is none of any is none of each
module _ {X Y : Type 0} (h : X → Option Y) where
  pub filter_map-none : (xs : List X) → filter_map h xs ≡ [] → All (λ x. h x ≡ None) xs
  filter_map-none [] none = All-nil (λ x. h x ≡ None)
  filter_map-none (x ∷ xs) none = by (h x) refl none (filter_map-none xs)
    where
      by : (o : Option Y) → h x ≡ o → cons_option o (filter_map h xs) ≡ [] → (filter_map h xs ≡ [] → All (λ x. h x ≡ None) xs) → All (λ x. h x ≡ None) (x ∷ xs)
      by None is empty rest = All-cons (λ x. h x ≡ None) x xs is (rest empty)
      by (Some y) is empty rest = absurd cc

  pub length-filter_map : (xs : List X) → length (filter_map h xs) ≤ length xs
  length-filter_map [] = omega arith
  length-filter_map (x ∷ xs) = by (h x) (length-filter_map xs)
    where
      by : (o : Option Y) → length (filter_map h xs) ≤ length xs → length (cons_option o (filter_map h xs)) ≤ suc (length xs)
      by None rest = omega arith
      by (Some y) rest = omega arith

pub first-none : {X : Type 0} (xs : List X) → slice_get xs 0 ≡ None → xs ≡ []
first-none [] none = refl
first-none (x ∷ xs) none = absurd cc

pub option_map-none : {X Y : Type 0} (f : X → Y) (o : Option X) → option_map f o ≡ None → o ≡ None
option_map-none f None none = refl
option_map-none f (Some x) none = absurd cc

pub flat_map-none : {X Y : Type 0} (f : X → List Y) (xs : List X) → flat_map f xs ≡ [] → All (λ x. f x ≡ []) xs
flat_map-none f [] none = All-nil (λ x. f x ≡ [])
flat_map-none {X} {Y} f (x ∷ xs) none = by (f x) refl none (flat_map-none f xs)
  where
    by : (ys : List Y) → f x ≡ ys → ys ++ flat_map f xs ≡ [] → (flat_map f xs ≡ [] → All (λ x. f x ≡ []) xs) → All (λ x. f x ≡ []) (x ∷ xs)
    by [] is empty rest = All-cons (λ x. f x ≡ []) x xs is (rest empty)
    by (y ∷ ys) is empty rest = absurd cc

pub list_any-none : {X : Type 0} (p : X → Bool) (xs : List X) → All (λ x. p x ≡ false) xs → list_any p xs ≡ false
list_any-none p [] none = refl
list_any-none p (x ∷ xs) none =
    or_from (p x) (list_any p xs) (All-head (λ x. p x ≡ false) x xs none) (list_any-none p xs (All-tail (λ x. p x ≡ false) x xs none))

pub All-from_map : {X Y : Type 0} (P : Y → Type 0) (f : X → Y) (xs : List X) → All P (map f xs) → All (λ x. P (f x)) xs
All-from_map P f [] all = All-nil (λ x. P (f x))
All-from_map P f (x ∷ xs) all = All-cons (λ x. P (f x)) x xs (All-head P (f x) (map f xs) all) (All-from_map P f xs (All-tail P (f x) (map f xs) all))

pub All-from_enumerate : {X : Type 0} (P : X → Type 0) (n : ℕ) (xs : List X) → All (λ e. P e.1) (enumerate_from n xs) → All P xs
All-from_enumerate P n [] all = All-nil P
All-from_enumerate P n (x ∷ xs) all =
    All-cons P x xs (All-head (λ e. P e.1) (n, x) (enumerate_from (n + 1) xs) all) (All-from_enumerate P (n + 1) xs (All-tail (λ e. P e.1) (n, x) (enumerate_from (n + 1) xs) all))

-- what is found of the things made of a list is made of one of them
pub found-of : {X Y : Type 0} (p : Y → Bool) (f : X → Y) (P : X → Type 0) (xs : List X) → All P xs → is_some (find p (map f xs)) ≡ true → (x : X) × P x × (p (f x) ≡ true)
found-of {X} {Y} p f P xs all is =
    let made : All (λ (y : Y). (x : X) × P x × (f x ≡ y)) (map f xs) = All-map (λ (y : Y). (x : X) × P x × (f x ≡ y)) f xs (λ k d less. (get_or xs k d, all k d less, refl)) in
    let one : (y : Y) × ((x : X) × P x × (f x ≡ y)) × (p y ≡ true) = found p (λ (y : Y). (x : X) × P x × (f x ≡ y)) (map f xs) made is in
    (one.1.0, one.1.1, ap p one.1.2 ∙ one.2)

pub there-of : {X Y : Type 0} (p : X → Y → Bool) (f : X → Y) → ((x : X) → p x (f x) ≡ true) → (xs : List X) → All (λ x. is_some (find (p x) (map f xs)) ≡ true) xs
there-of {X} p f passes xs k d within =
    let x : X = get_or xs k d in
    let here : slice_get (map f xs) k ≡ Some (f x) = slice_get-map f xs k ∙ ap (option_map f) (slice_get-get_or xs k d within) in
    find-there (p x) (map f xs) k (f x) here (passes x)

-- the greatest of some numbers
module _ {X : Type 0} (f : X → ℕ) where
  pub fold-max-start : (n : ℕ) (xs : List X) → n ≤ fold (λ most x. max most (f x)) n xs
  fold-max-start n [] = omega arith
  fold-max-start n (x ∷ xs) = let more : max n (f x) ≤ fold (λ most x. max most (f x)) (max n (f x)) xs = fold-max-start (max n (f x)) xs in omega arith

  pub fold-max : (n : ℕ) (xs : List X) → All (λ x. f x ≤ fold (λ most x. max most (f x)) n xs) xs
  fold-max n [] = All-nil (λ x. f x ≤ n)
  fold-max n (x ∷ xs) =
      let more : max n (f x) ≤ fold (λ most x. max most (f x)) (max n (f x)) xs = fold-max-start (max n (f x)) xs in
      All-cons (λ y. f y ≤ fold (λ most x. max most (f x)) (max n (f x)) xs) x xs (omega arith) (fold-max (max n (f x)) xs)

-- each element with its number
pub enumerate-there : {X : Type 0} (xs : List X) → All (λ e. slice_get xs e.0 ≡ Some e.1) (enumerate_from 0 xs)
enumerate-there {X} xs k d less =
    let within : k < length xs = omega (arith, less, length-enumerate_from 0 xs) in
    rw (get_or-enumerate_from 0 xs k d within) (by (0 + k) (omega arith) within)
  where
    by : (n : ℕ) → n ≡ k → k < length xs → slice_get xs n ≡ Some (get_or xs k d.1)
    by n same within = rw same (slice_get-get_or xs k d.1 within)

-- ---- each two elements

module _ {X : Type 0} (R : X → X → Type 0) where
  pub AllPairs-append : (xs ys : List X) → AllPairs R xs → AllPairs R ys → All (λ x. All (R x) ys) xs → AllPairs R (xs ++ ys)
  AllPairs-append [] ys all more across = more
  AllPairs-append (x ∷ xs) ys all more across =
      AllPairs-cons R x (xs ++ ys) (All-append (R x) xs ys (AllPairs-first R x xs all) (All-head (λ x. All (R x) ys) x xs across))
      (AllPairs-append xs ys (AllPairs-rest R x xs all) more (All-tail (λ x. All (R x) ys) x xs across))

  pub AllPairs-filter : (p : X → Bool) (xs : List X) → AllPairs R xs → AllPairs R (filter p xs)
  AllPairs-filter p [] all = AllPairs-nil R
  AllPairs-filter p (x ∷ xs) all = by (p x) (All-filter p (R x) xs (AllPairs-first R x xs all)) (AllPairs-filter p xs (AllPairs-rest R x xs all))
    where
      by : (b : Bool) → All (R x) (filter p xs) → AllPairs R (filter p xs) → AllPairs R (cond b (x ∷ filter p xs) (filter p xs))
      by true first rest = AllPairs-cons R x (filter p xs) first rest
      by false first rest = rest

pub IfSome-from : {X : Type 0} (o : Option X) (P : X → Type 0) → ((x : X) → o ≡ Some x → P x) → IfSome o P
IfSome-from None P each = tt
IfSome-from (Some x) P each = each x refl

module _ {X Y : Type 0} (R : X → X → Type 0) (S : Y → Y → Type 0) (h : X → Option Y) where
  pub AllPairs-filter_map : ((x y : X) (a b : Y) → h x ≡ Some a → h y ≡ Some b → R x y → S a b) → (xs : List X) → AllPairs R xs → AllPairs S (filter_map h xs)
  AllPairs-filter_map each [] all = AllPairs-nil S
  AllPairs-filter_map each (x ∷ xs) all = by (h x) refl (AllPairs-filter_map each xs (AllPairs-rest R x xs all))
    where
      by : (o : Option Y) → h x ≡ o → AllPairs S (filter_map h xs) → AllPairs S (cons_option o (filter_map h xs))
      by None is rest = rest
      by (Some a) is rest =
          let first : All (λ y. IfSome (h y) (S a)) xs =
          All-weaker (R x) (λ y. IfSome (h y) (S a)) (λ y less. IfSome-from (h y) (S a) (λ b its. each x y a b is its less)) xs (AllPairs-first R x xs all) in
          AllPairs-cons S a (filter_map h xs) (All-filter_map (S a) h xs first) rest

pub enumerate-rising : {X : Type 0} (n : ℕ) (xs : List X) → AllPairs (λ (e f : ℕ × X). e.0 < f.0) (enumerate_from n xs)
enumerate-rising n xs i j d less within =
    let long : length (enumerate_from n xs) ≡ length xs = length-enumerate_from n xs in
    let one : get_or (enumerate_from n xs) i d ≡ (n + i, get_or xs i d.1) = get_or-enumerate_from n xs i d (omega arith) in
    let other : get_or (enumerate_from n xs) j d ≡ (n + j, get_or xs j d.1) = get_or-enumerate_from n xs j d (omega arith) in
    rw (one, other) (omega arith)
