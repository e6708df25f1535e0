-- The places of an integration stand together, where places are in the order of the integrations that they are of.
use Rattle.std.specs.List.{All, AllWithin}
use Rattle.std.specs.List.Sorted.{IsPartitionedBy, IsPartitionPoint}
use Rattle.std.proofs.Common.{◌≡◌, ◌∙◌, ℕ, ◌+◌, ◌-◌, ◌<◌, Bool, true, false, cond, ltb, eqb, ◌||◌, ◌&&◌, List, [], ◌∷◌, ◌++◌, length, take, drop, get_or, filter, append-nil, refl, sym, ap, subst, arith}
use Rattle.std.proofs.lemmas.List.{length-take, length-drop, take-append-drop, get_or-take, get_or-drop, take_rest}
use Rattle.std.proofs.lemmas.List.Elements.{filter-append, All-head, All-tail}
use Rattle.std.proofs.lemmas.Bool.Decides.{nat_tests}
use Rattle.checkpoint_journal.specs.declared.listed.KeptAt.{KeptAt}
use Rattle.shard_merge.specs.CoverageOrder.{stands_before, stands_in}
use Rattle.shard_merge.proofs.CoverageSteps.{IsFrom, Rise, Rise-get_or}

-- what is true of the one is true of those before it
before-down : (number m s t n o : ℕ) → IsFrom s n t o → (ltb t number || (eqb t number && ltb o m)) ≡ true → (ltb s number || (eqb s number && ltb n m)) ≡ true
before-down number m s t n o from is =
    let scan = from.scan in
    let own = from.own in
    grind (arith, nat_tests)

in-down : (number m s t n o : ℕ) → IsFrom s n t o → (ltb s number || (eqb s number && ltb n m)) ≡ false → (eqb t number && eqb o m) ≡ true
    → (eqb s number && eqb n m) ≡ true
in-down number m s t n o from past is =
    let scan = from.scan in
    let own = from.own in
    grind (arith, nat_tests)

-- an epoch before an integration is none of it
before-other : (number m s n : ℕ) → (ltb s number || (eqb s number && ltb n m)) ≡ true → (eqb s number && eqb n m) ≡ false
before-other number m s n before = grind (arith, nat_tests)

pub before-IsPartitionedBy : (number m : ℕ) (listed : List KeptAt) → Rise listed → IsPartitionedBy (stands_before number m) listed
before-IsPartitionedBy number m listed up i j d le inside is =
    let a = get_or listed i d in
    let b = get_or listed j d in
    before-down number m a.epoch.scan b.epoch.scan a.epoch.m b.epoch.m (Rise-get_or listed i j d le inside up) is

pub in-IsPartitionedBy : (number m : ℕ) (listed : List KeptAt) (k : ℕ) → Rise listed
    → AllWithin (λ (a : KeptAt). stands_before number m a ≡ false) listed k (length listed) → IsPartitionedBy (stands_in number m) (drop k listed)
in-IsPartitionedBy number m listed k up past i j d le inside is =
    let long = length-drop k listed in
    let a = get_or listed (k + i) d in
    let b = get_or listed (k + j) d in
    let at_i : get_or (drop k listed) i d ≡ a = get_or-drop k listed i d in
    let at_j : get_or (drop k listed) j d ≡ b = get_or-drop k listed j d in
    let is_b : stands_in number m b ≡ true = ap (stands_in number m) (sym at_j) ∙ is in
    ap (stands_in number m) at_i
    ∙ in-down number m a.epoch.scan b.epoch.scan a.epoch.m b.epoch.m
    (Rise-get_or listed (k + i) (k + j) d (omega (arith, le)) (omega (arith, inside, long)) up) (past (k + i) d (omega arith) (omega (arith, le, inside, long))) is_b

module _ {X : Type 0} (p : X → Bool) where
  filter-all : (xs : List X) → All (λ (x : X). p x ≡ true) xs → filter p xs ≡ xs
  filter-all [] all = refl
  filter-all (x ∷ xs) all =
      let here : p x ≡ true = All-head (λ (y : X). p y ≡ true) x xs all in
      ap (λ (b : Bool). cond b (x ∷ filter p xs) (filter p xs)) here
      ∙ ap (λ (ys : List X). x ∷ ys) (filter-all xs (All-tail (λ (y : X). p y ≡ true) x xs all))

  filter-none : (xs : List X) → All (λ (x : X). p x ≡ false) xs → filter p xs ≡ []
  filter-none [] all = refl
  filter-none (x ∷ xs) all =
      let here : p x ≡ false = All-head (λ (y : X). p y ≡ false) x xs all in
      ap (λ (b : Bool). cond b (x ∷ filter p xs) (filter p xs)) here ∙ filter-none xs (All-tail (λ (y : X). p y ≡ false) x xs all)

  All-front : (P : X → Type 0) (xs : List X) (n : ℕ) → AllWithin P xs 0 n → All P (take n xs)
  All-front P xs n all i d inside =
      let long = length-take n xs in
      let below : i < n = omega (arith, inside, long) in
      subst P (sym (get_or-take n xs i d below)) (all i d (omega arith) below)

  All-back : (P : X → Type 0) (xs : List X) (n : ℕ) → AllWithin P xs n (length xs) → All P (drop n xs)
  All-back P xs n all i d inside =
      let long = length-drop n xs in
      subst P (sym (get_or-drop n xs i d)) (all (n + i) d (omega arith) (omega (arith, inside, long)))

  -- the elements of a test stand together, behind those before them
  pub filter-stretch : (xs : List X) (k n : ℕ) → AllWithin (λ (x : X). p x ≡ false) xs 0 k
      → IsPartitionPoint (λ (x : X). p x ≡ true) (λ (x : X). p x ≡ false) (drop k xs) n → filter p xs ≡ take n (drop k xs)
  filter-stretch xs k n before point =
      let rest = drop k xs in
      let front : filter p (take k xs) ≡ [] = filter-none (take k xs) (All-front (λ (x : X). p x ≡ false) xs k before) in
      let middle : filter p (take n rest) ≡ take n rest = filter-all (take n rest) (All-front (λ (x : X). p x ≡ true) rest n point.0) in
      let back : filter p (drop n rest) ≡ [] = filter-none (drop n rest) (All-back (λ (x : X). p x ≡ false) rest n point.1) in
      let all : filter p rest ≡ take n rest ++ [] =
      ap (filter p) (sym (take-append-drop n rest)) ∙ filter-append p (take n rest) (drop n rest)
      ∙ ap (λ (ys : List X). ys ++ filter p (drop n rest)) middle ∙ ap (λ (ys : List X). take n rest ++ ys) back in
      ap (filter p) (sym (take-append-drop k xs)) ∙ filter-append p (take k xs) rest
      ∙ ap (λ (ys : List X). ys ++ filter p rest) front ∙ all ∙ append-nil (take n rest)

-- the places of an integration, by the two points
pub stretch-filter : (number m : ℕ) (listed : List KeptAt) (k n : ℕ) → Rise listed
    → (IsPartitionedBy (stands_before number m) listed
    → IsPartitionPoint (λ (a : KeptAt). stands_before number m a ≡ true) (λ (a : KeptAt). stands_before number m a ≡ false) listed k)
    → (IsPartitionedBy (stands_in number m) (drop k listed)
    → IsPartitionPoint (λ (a : KeptAt). stands_in number m a ≡ true) (λ (a : KeptAt). stands_in number m a ≡ false) (drop k listed) n)
    → filter (stands_in number m) listed ≡ take n (drop k listed)
stretch-filter number m listed k n up first last =
    let begun = first (before-IsPartitionedBy number m listed up) in
    filter-stretch (stands_in number m) listed k n
    (λ i d low high. let a = get_or listed i d in before-other number m a.epoch.scan a.epoch.m (begun.0 i d low high))
    (last (in-IsPartitionedBy number m listed k up begun.1))

-- the same, as the two slices are taken
pub stretch-is : (number m : ℕ) (xs items : List KeptAt) (k n : ℕ) → xs ≡ items → Rise items
    → (IsPartitionedBy (stands_before number m) xs
    → IsPartitionPoint (λ (a : KeptAt). stands_before number m a ≡ true) (λ (a : KeptAt). stands_before number m a ≡ false) xs k)
    → (IsPartitionedBy (stands_in number m) (take (length xs - k) (drop k xs))
    → IsPartitionPoint (λ (a : KeptAt). stands_in number m a ≡ true) (λ (a : KeptAt). stands_in number m a ≡ false) (take (length xs - k) (drop k xs)) n)
    → take n (take (length xs - k) (drop k xs)) ≡ filter (stands_in number m) items
stretch-is number m xs items k n same up first last =
    let whole : take (length xs - k) (drop k xs) ≡ drop k xs = take_rest xs k in
    let point = subst (λ (ys : List KeptAt). IsPartitionedBy (stands_in number m) ys
    → IsPartitionPoint (λ (a : KeptAt). stands_in number m a ≡ true) (λ (a : KeptAt). stands_in number m a ≡ false) ys n) whole last in
    ap (take n) whole ∙ sym (stretch-filter number m xs k n (subst Rise (sym same) up) first point) ∙ ap (filter (stands_in number m)) same
