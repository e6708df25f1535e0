-- The stations of a job in a scan, found by their keys.
use Rattle.std.proofs.Common.{◌≡◌, ◌≢◌, ℕ, zero, suc, ◌+◌, ◌<◌, ◌≤◌, Bool, true, false, cond, eqb, List, [], ◌∷◌, ◌++◌, take, length, get_or, map, filter_map, None, Some, Option, IfSome, option_map, ap, refl, sym, subst, ◌∙◌, bytes_eq, is_some, slice_get, find, All, AllPairs, Contains, ⊎_elim, inl, inr, ◌⊎◌, arith}
use Rattle.std.specs.Option.{option_or, option_to_list}
use Rattle.std.specs.List.{cons_option, position, position_from, enumerate_from, IsDistinct}
use Rattle.std.specs.List.Sorted.{IsPermutation, IsNonDecreasingBy}
use Rattle.std.proofs.lemmas.Bool.{cases_order, eq-eqb, ne_eqb, eqb-true, eqb-false}
use Rattle.std.proofs.lemmas.Bool.Decides.{Decides-eqb}
use Rattle.std.proofs.lemmas.List.{get_or-map, length-map, take_more, length-take-le}
use Rattle.std.proofs.lemmas.List.Elements.{All-nil, All-cons, All-contains, All-weaker, All-contains_itself, Contains-get_or, filter_map-append}
use Rattle.std.proofs.lemmas.List.FromFn.{length-enumerate_from, get_or-enumerate_from}
use Rattle.std.proofs.lemmas.List.Quantifiers.{position-Some}
use Rattle.std.proofs.lemmas.List.Sorted.{Contains-permutation, IsPermutation-sym, IsPermutation-map}
use Rattle.std.proofs.lemmas.Map.Keys.{IsDistinct-IsPermutation}
use Rattle.std.proofs.lemmas.Map.Made.{AllPairs-from_IsDistinct, IsDistinct-from_AllPairs}
use Rattle.std.proofs.lemmas.Option.{same_Some, slice_get-get_or, slice_get_within, get_or_from_slice_get}
use Rattle.std.proofs.lemmas.Iterator.Adapters.{position_from-zero}
use Rattle.std.proofs.lemmas.Slice.Eq.{bytes_eq-Decides}
use Rattle.named_list.specs.Named.{named, put}
use Rattle.scan_list.specs.declared.scan.Pass.{Pass}
use Rattle.scan_list.specs.declared.scan.Scan.{Scan}
use Rattle.scan_list.specs.Sound.{IsScan}
use Rattle.job_text.specs.Job.{StationFields, JobFields}
use Rattle.job_text.specs.Ranges.{IsJob}
use Rattle.job_join.specs.Standing.{Stand, stand_in, stands_in, pass_with}
use Rattle.job_join.specs.Places.{found_by, found_at}
use Rattle.job_join.proofs.Sets.{named-put}
use Rattle.job_join.proofs.RangesLists.{All-filter_map, AllPairs-filter_map, IfSome-from, find-All, find-passes, find-None, position-None}
use Rattle.job_join.proofs.RangesStands.{IsStand, stands-there, stands-rising}

-- ---- the numbers of stations, by their keys

-- a number that is put under a key that has none
pub number-put : (xs ys : List (List ℕ × ℕ)) (name q : List ℕ) (i : ℕ) → ys ≡ put xs name i → is_some (named xs name) ≡ false
    → named ys q ≡ option_or (named xs q) (cond (bytes_eq name q) (Some i) None)
number-put xs ys name q i is new = ap (λ zs. named zs q) is ∙ named-put xs name q i ∙ by (bytes_eq name q) refl (named xs q) refl
  where
    by : (b : Bool) → bytes_eq name q ≡ b → (o : Option ℕ) → named xs q ≡ o → cond b (Some i) o ≡ option_or o (cond b (Some i) None)
    by true same None here = refl
    by true same (Some x) here =
        let one : name ≡ q = (bytes_eq-Decides name q).0 same in
        let none : is_some (named xs q) ≡ false = ap (λ n. is_some (named xs n)) (sym one) ∙ new in
        absurd cc
    by false same None here = refl
    by false same (Some x) here = refl

-- a key that has one keeps it
pub number-kept : (xs : List (List ℕ × ℕ)) (name q : List ℕ) (i : ℕ) → is_some (named xs name) ≡ true → named xs q ≡ option_or (named xs q) (cond (bytes_eq name q) (Some i) None)
number-kept xs name q i old = by (bytes_eq name q) refl (named xs q) refl
  where
    by : (b : Bool) → bytes_eq name q ≡ b → (o : Option ℕ) → named xs q ≡ o → o ≡ option_or o (cond b (Some i) None)
    by true same None here =
        let one : name ≡ q = (bytes_eq-Decides name q).0 same in
        let some : is_some (named xs q) ≡ true = ap (λ n. is_some (named xs n)) (sym one) ∙ old in
        absurd cc
    by true same (Some x) here = refl
    by false same None here = refl
    by false same (Some x) here = refl

module _ {X : Type 0} (p : X → Bool) where
  position_from-append : (k : ℕ) (xs ys : List X) → position_from p k (xs ++ ys) ≡ option_or (position_from p k xs) (position_from p (k + length xs) ys)
  position_from-append k [] ys = let same : k ≡ k + 0 = omega arith in ap (λ n. position_from p n ys) same
  position_from-append k (x ∷ xs) ys = by (p x) (position_from-append (k + 1) xs ys)
    where
      by : (b : Bool) → position_from p (k + 1) (xs ++ ys) ≡ option_or (position_from p (k + 1) xs) (position_from p (k + 1 + length xs) ys)
          → cond b (Some k) (position_from p (k + 1) (xs ++ ys)) ≡ option_or (cond b (Some k) (position_from p (k + 1) xs)) (position_from p (k + suc (length xs)) ys)
      by true rest = refl
      by false rest =
          let same : k + 1 + length xs ≡ k + suc (length xs) = omega arith in
          rest ∙ ap (λ n. option_or (position_from p (k + 1) xs) (position_from p n ys)) same

  -- the first place of one more
  pub position-more : (xs : List X) (i : ℕ) (x : X) → i < length xs → x ≡ get_or xs i x
      → position p (take (i + 1) xs) ≡ option_or (position p (take i xs)) (cond (p x) (Some i) None)
  position-more xs i x less is =
      let long : 0 + length (take i xs) ≡ i = omega (arith, length-take-le i xs (omega arith)) in
      position_from-zero p (take (i + 1) xs)
      ∙ ap (position_from p 0) (take_more xs i x less ∙ ap (λ y. take i xs ++ y ∷ []) (sym is))
      ∙ position_from-append 0 (take i xs) (x ∷ [])
      ∙ ap (λ n. option_or (position_from p 0 (take i xs)) (position_from p n (x ∷ []))) long
      ∙ ap (λ o. option_or o (cond (p x) (Some i) None)) (sym (position_from-zero p (take i xs)))

  -- the place of the only one that passes
  pub position-only : (xs : List X) (n : ℕ) (x : X) → slice_get xs n ≡ Some x → p x ≡ true
      → ((m : ℕ) (y : X) → slice_get xs m ≡ Some y → p y ≡ true → m ≡ n) → position p xs ≡ Some n
  position-only xs n x is passes only = by (position p xs) refl
    where
      by : (o : Option ℕ) → position p xs ≡ o → position p xs ≡ Some n
      by None none =
          let here : get_or xs n x ≡ x = get_or_from_slice_get xs n x x is in
          let fails : p (get_or xs n x) ≡ false = position-None p xs none n x (slice_get_within xs n x is) in
          let passing : p (get_or xs n x) ≡ true = ap p here ∙ passes in
          absurd cc
      by (Some m) some =
          let found = position-Some p xs m x some in
          let same : m ≡ n = only m (get_or xs m x) (slice_get-get_or xs m x found.0) found.1 in
          some ∙ ap Some same

  -- the only one that passes is found
  pub find-only : (xs : List X) (x : X) → Contains xs x → p x ≡ true → ((y : X) → Contains xs y → p y ≡ true → y ≡ x) → find p xs ≡ Some x
  find-only xs x there passes only = by (find p xs) refl (find-All p (Contains xs) xs (All-contains_itself xs))
    where
      by : (o : Option X) → find p xs ≡ o → IfSome o (Contains xs) → find p xs ≡ Some x
      by None none within =
          let fails : p x ≡ false = All-contains (λ y. p y ≡ false) xs x (find-None p xs none) there in
          absurd cc
      by (Some y) some within = some ∙ ap Some (only y within (find-passes p xs y some))

-- ---- lists of what is found

module _ {X Y : Type 0} (h : X → Option Y) where
  pub filter_map-turn : (xs : List X) (i : ℕ) (x : X) (ys zs : List Y) → i < length xs → x ≡ get_or xs i x → ys ≡ filter_map h (take i xs) → zs ≡ ys ++ option_to_list (h x)
      → zs ≡ filter_map h (take (i + 1) xs)
  filter_map-turn xs i x ys zs less is so_far new =
      new ∙ ap (λ front. front ++ option_to_list (h x)) so_far ∙ ap (λ more. filter_map h (take i xs) ++ more) (one (h x))
      ∙ sym (filter_map-append h (take i xs) (x ∷ []))
      ∙ ap (filter_map h) (ap (λ y. take i xs ++ y ∷ []) is ∙ sym (take_more xs i x less))
    where
      one : (o : Option Y) → option_to_list o ≡ cons_option o []
      one None = refl
      one (Some y) = refl

  -- one of these comes of one of the list
  pub filter_map-from : (xs : List X) (y : Y) → Contains (filter_map h xs) y → (x : X) × Contains xs x × (h x ≡ Some y)
  filter_map-from xs y there =
      let Q : Y → Type 0 = λ y. (x : X) × Contains xs x × (h x ≡ Some y) in
      All-contains Q (filter_map h xs) y
      (All-filter_map Q h xs (λ k d less. IfSome-from (h (get_or xs k d)) Q (λ y is. (get_or xs k d, Contains-get_or xs k d less, is)))) there

  Contains-cons : (ys : List Y) (z y : Y) → Contains ys y → Contains (z ∷ ys) y
  Contains-cons ys z y there = (suc there.0, omega (arith, there.1), there.2)

  each-there : (xs : List X) → All (λ x. IfSome (h x) (Contains (filter_map h xs))) xs
  each-there [] = All-nil (λ x. IfSome (h x) (Contains []))
  each-there (x ∷ xs) =
      All-cons (λ x'. IfSome (h x') (Contains (cons_option (h x) (filter_map h xs)))) x xs (first (h x))
      (All-weaker (λ x'. IfSome (h x') (Contains (filter_map h xs))) (λ x'. IfSome (h x') (Contains (cons_option (h x) (filter_map h xs)))) (λ x' old. later (h x) (h x') old) xs (each-there xs))
    where
      first : (o : Option Y) → IfSome o (Contains (cons_option o (filter_map h xs)))
      first None = tt
      first (Some y) = (0, omega arith, refl)

      later : (o p : Option Y) → IfSome p (Contains (filter_map h xs)) → IfSome p (Contains (cons_option o (filter_map h xs)))
      later None p old = old
      later (Some z) None old = tt
      later (Some z) (Some y) old = Contains-cons (filter_map h xs) z y old

  pub filter_map-to : (xs : List X) (x : X) (y : Y) → Contains xs x → h x ≡ Some y → Contains (filter_map h xs) y
  filter_map-to xs x y there is =
      let here : IfSome (h x) (Contains (filter_map h xs)) = All-contains (λ x. IfSome (h x) (Contains (filter_map h xs))) xs x (each-there xs) there in
      let P : Option Y → Type 0 = λ o. IfSome o (Contains (filter_map h xs)) in
      subst P is here

-- one of a list stands at a place
contains-place : {X : Type 0} (xs : List X) (x : X) → Contains xs x → (k : ℕ) × (slice_get xs k ≡ Some x)
contains-place xs x there = (there.0, slice_get-get_or xs there.0 x there.1 ∙ ap Some there.2)

-- ---- things that differ

module _ {X K : Type 0} (f : X → K) where
  pub AllPairs-from_map : (R : K → K → Type 0) (xs : List X) → AllPairs R (map f xs) → AllPairs (λ x y. R (f x) (f y)) xs
  AllPairs-from_map R xs all i j d less within =
      let long : length (map f xs) ≡ length xs = length-map xs f in
      let one : get_or (map f xs) i (f d) ≡ f (get_or xs i d) = get_or-map f xs i d (f d) (omega arith) in
      let other : get_or (map f xs) j (f d) ≡ f (get_or xs j d) = get_or-map f xs j d (f d) within in
      rw (← one, ← other) (all i j (f d) less (omega arith))

  -- two places with one name are one
  pub same-place : (xs : List X) → AllPairs (λ x y. x ≢ y) (map f xs) → (i j : ℕ) (x y : X) → slice_get xs i ≡ Some x → slice_get xs j ≡ Some y → f x ≡ f y → i ≡ j
  same-place xs differ i j x y here there same =
      let one : get_or xs i x ≡ x = get_or_from_slice_get xs i x x here in
      let other : get_or xs j x ≡ y = get_or_from_slice_get xs j y x there in
      let apart = AllPairs-from_map (λ a b. a ≢ b) xs differ in
      let equal : f (get_or xs i x) ≡ f (get_or xs j x) = ap f one ∙ same ∙ sym (ap f other) in
      ⊎_elim (λ e. e)
      (λ ne. ⊎_elim (λ less. absurd (apart i j x less (slice_get_within xs j y there) equal)) (λ more. absurd (apart j i x more (slice_get_within xs i x here) (sym equal))) ne)
      (cases_order i j)

  pub same-thing : (xs : List X) → AllPairs (λ x y. x ≢ y) (map f xs) → (x y : X) → Contains xs x → Contains xs y → f x ≡ f y → x ≡ y
  same-thing xs differ x y here there same =
      let one = contains-place xs x here in
      let other = contains-place xs y there in
      let place : one.0 ≡ other.0 = same-place xs differ one.0 other.0 x y one.1 other.1 same in
      same_Some x y (sym one.1 ∙ ap (slice_get xs) place ∙ other.1)

-- ---- lists that rise

module _ {X : Type 0} (f : X → ℕ) where
  abbrev pub Rises : List X → Type 0
  Rises xs = AllPairs (λ x y. f x < f y) xs

  first : (x : X) (xs : List X) → Rises (x ∷ xs) → All (λ y. f x < f y) xs
  first x xs all k d within = all zero (suc k) d (omega arith) (omega arith)

  rest : (x : X) (xs : List X) → Rises (x ∷ xs) → Rises xs
  rest x xs all i j d less within = all (suc i) (suc j) d (omega arith) (omega arith)

  at : (x y : X) (xs : List X) (k : ℕ) → k < suc (length xs) → get_or (x ∷ xs) k y ≡ y → (x ≡ y) ⊎ Contains xs y
  at x y xs zero less is = inl is
  at x y xs (suc k) less is = inr (k, omega arith, is)

  cases : (x y : X) (xs : List X) → Contains (x ∷ xs) y → (x ≡ y) ⊎ Contains xs y
  cases x y xs there = at x y xs there.0 there.1 there.2

  head : (x : X) (xs : List X) → Contains (x ∷ xs) x
  head x xs = (0, omega arith, refl)

  none : (x : X) → Contains [] x → ⊥
  none x there = omega (arith, there.1)

  behind : (x y : X) (xs : List X) → Contains xs y → Contains (x ∷ xs) y
  behind x y xs there = (suc there.0, omega (arith, there.1), there.2)

  -- two lists that rise and have the same elements are one
  pub same-rising : (xs ys : List X) → Rises xs → Rises ys → ((x : X) → Contains xs x → Contains ys x) → ((x : X) → Contains ys x → Contains xs x) → xs ≡ ys
  same-rising [] [] up up' to from = refl
  same-rising [] (y ∷ ys) up up' to from = absurd (none y (from y (head y ys)))
  same-rising (x ∷ xs) [] up up' to from = absurd (none x (to x (head x xs)))
  same-rising (x ∷ xs) (y ∷ ys) up up' to from = joined same (same-rising xs ys (rest x xs up) (rest y ys up') there back)
    where
      below : Contains ys x → f y < f x
      below behind = All-contains (λ z. f y < f z) ys x (first y ys up') behind

      above : Contains xs y → f x < f y
      above behind = All-contains (λ z. f x < f z) xs y (first x xs up) behind

      same : x ≡ y
      same = ⊎_elim (λ e. sym e) (λ later. ⊎_elim (λ e. e) (λ sooner. absurd (omega (arith, below later, above sooner))) (cases x y xs (from y (head y ys)))) (cases y x ys (to x (head x xs)))

      there : (z : X) → Contains xs z → Contains ys z
      there z within =
          let less : f x < f z = All-contains (λ z. f x < f z) xs z (first x xs up) within in
          ⊎_elim (λ e. let level : f x ≡ f z = ap f (same ∙ e) in absurd (omega arith)) (λ later. later) (cases y z ys (to z (behind x z xs within)))

      back : (z : X) → Contains ys z → Contains xs z
      back z within =
          let less : f y < f z = All-contains (λ z. f y < f z) ys z (first y ys up') within in
          ⊎_elim (λ e. let level : f y ≡ f z = ap f (sym same ∙ e) in absurd (omega arith)) (λ later. later) (cases x z xs (from z (behind y z ys within)))

      joined : x ≡ y → xs ≡ ys → x ∷ xs ≡ y ∷ ys
      joined e es = cc

  -- what does not fall, and is an order of a list whose numbers differ, rises
  pub Rises-sorted : (xs ys : List X) → AllPairs (λ x y. f x ≢ f y) xs → IsPermutation xs ys → IsNonDecreasingBy f ys → Rises ys
  Rises-sorted xs ys differ moved up i j d less within =
      let numbers : AllPairs (λ a b. a ≢ b) (map f xs) = λ i j d less within.
      (let long : length (map f xs) ≡ length xs = length-map xs f in
      let ends : j < length xs = omega arith in
      absent i j d less ends) in
      let distinct : IsDistinct eqb (map f xs) = IsDistinct-from_AllPairs Decides-eqb (map f xs) numbers in
      let moved' : IsDistinct eqb (map f ys) = IsDistinct-IsPermutation eqb eqb-flips (map f xs) (map f ys) (IsPermutation-map f xs ys moved) distinct in
      let apart = AllPairs-from_map f (λ a b. a ≢ b) ys (AllPairs-from_IsDistinct Decides-eqb (map f ys) moved') in
      let ne : f (get_or ys i d) ≢ f (get_or ys j d) = apart i j d less within in
      let le : f (get_or ys i d) ≤ f (get_or ys j d) = up i j d (omega arith) within in
      omega arith
    where
      eqb-flips : (a b : ℕ) → eqb a b ≡ eqb b a
      eqb-flips a b = by (eqb a b) refl
        where
          by : (t : Bool) → eqb a b ≡ t → t ≡ eqb b a
          by true e = sym (eq-eqb b a (sym (eqb-true a b e)))
          by false e = sym (ne_eqb b a (λ same. eqb-false a b e (sym same)))

      absent : (m n e : ℕ) → m < n → n < length xs → get_or (map f xs) m e ≢ get_or (map f xs) n e
      absent m n e less within same = differ m n d less within (sym (get_or-map f xs m d e (omega arith)) ∙ same ∙ get_or-map f xs n d e within)

-- ---- the stations of a scan

-- a station that was found has the part's key
pub record IsSeat (stations : List StationFields) (pass : Pass) (x : Stand) : Type 0 where
  pub there : slice_get stations x.number ≡ Some x.station
  pub key : x.station.key ≡ pass.key
  pub part : x.pass ≡ pass

found_at-seat : (stations : List StationFields) (pass : Pass) (x : Stand) → found_at stations pass ≡ Some x → IsSeat stations pass x
found_at-seat stations pass x is = by (position (λ (s : StationFields). bytes_eq s.key pass.key) stations) refl is
  where
    at : (n : ℕ) → position (λ (s : StationFields). bytes_eq s.key pass.key) stations ≡ Some n → (o : Option StationFields) → slice_get stations n ≡ o
        → option_map (λ (s : StationFields). record { number = n; station = s; pass = pass }) o ≡ Some x → IsSeat stations pass x
    at n place None there is = absurd cc
    at n place (Some s) there is =
        let seat : Stand = record { number = n; station = s; pass = pass } in
        let same : seat ≡ x = same_Some seat x is in
        let found = position-Some (λ (s : StationFields). bytes_eq s.key pass.key) stations n s place in
        let here : get_or stations n s ≡ s = get_or_from_slice_get stations n s s there in
        let equal : bytes_eq s.key pass.key ≡ true = ap (λ (t : StationFields). bytes_eq t.key pass.key) (sym here) ∙ found.1 in
        let P : Stand → Type 0 = IsSeat stations pass in
        subst P same (record { there = there; key = (bytes_eq-Decides s.key pass.key).0 equal; part = refl })

    by : (o : Option ℕ) → position (λ (s : StationFields). bytes_eq s.key pass.key) stations ≡ o → found_by stations pass o ≡ Some x → IsSeat stations pass x
    by None place is = absurd cc
    by (Some n) place is = at n place (slice_get stations n) refl is

found_at-there : (stations : List StationFields) → AllPairs (λ x y. x ≢ y) (map (λ (s : StationFields). s.key) stations) → (x : Stand)
    → slice_get stations x.number ≡ Some x.station → x.station.key ≡ x.pass.key → found_at stations x.pass ≡ Some x
found_at-there stations differ x there key =
    let p : StationFields → Bool = λ s. bytes_eq s.key x.pass.key in
    let passes : p x.station ≡ true = (bytes_eq-Decides x.station.key x.pass.key).1 key in
    let place : position p stations ≡ Some x.number = position-only p stations x.number x.station there passes
    (λ m y is equal. same-place (λ (s : StationFields). s.key) stations differ m x.number y x.station is there ((bytes_eq-Decides y.key x.pass.key).0 equal ∙ sym key)) in
    ap (found_by stations x.pass) place ∙ ap (option_map (λ (s : StationFields). record { number = x.number; station = s; pass = x.pass })) there

-- those of the parts of a scan, in the order of their numbers, are the job's stations in the scan
pub stands_in-found : (job : JobFields) (scan : Scan) (found stands : List Stand) → IsJob job → IsScan scan → found ≡ filter_map (found_at job.stations) scan.passes
    → IsPermutation found stands → IsNonDecreasingBy (λ (s : Stand). s.number) stands → stands ≡ stands_in job scan
unfolding stands_in
stands_in-found job scan found stands ranges sound made moved up =
    same-rising (λ (s : Stand). s.number) stands (stands_in job scan) (Rises-sorted (λ (s : Stand). s.number) found stands apart moved up) (stands-rising job scan) to from
  where
    apart-passes : AllPairs (λ (x y : Pass). x.key ≢ y.key) scan.passes
    apart-passes = AllPairs-from_map (λ (p : Pass). p.key) (λ a b. a ≢ b) scan.passes sound.distinct

    apart' : AllPairs (λ (x y : Stand). x.number ≢ y.number) (filter_map (found_at job.stations) scan.passes)
    apart' = AllPairs-filter_map (λ (x y : Pass). x.key ≢ y.key) (λ (x y : Stand). x.number ≢ y.number) (found_at job.stations)
        (λ x y a b is its ne same.
        let one = found_at-seat job.stations x a is in
        let other = found_at-seat job.stations y b its in
        let station : a.station ≡ b.station = same_Some a.station b.station (sym one.there ∙ ap (slice_get job.stations) same ∙ other.there) in
        ne (sym one.key ∙ ap (λ (s : StationFields). s.key) station ∙ other.key))
        scan.passes apart-passes

    apart : AllPairs (λ (x y : Stand). x.number ≢ y.number) found
    apart = rw made apart'

    to : (x : Stand) → Contains stands x → Contains (stands_in job scan) x
    to x within =
        let old : Contains found x = Contains-permutation stands found x (IsPermutation-sym found stands moved) within in
        let old' : Contains (filter_map (found_at job.stations) scan.passes) x = rw made at old in
        let from = filter_map-from (found_at job.stations) scan.passes x old' in
        let seat = found_at-seat job.stations from.0 x from.2 in
        let less : x.number < length job.stations = slice_get_within job.stations x.number x.station seat.there in
        let entry : get_or (enumerate_from 0 job.stations) x.number (x.number, x.station) ≡ (x.number, x.station) =
        get_or-enumerate_from 0 job.stations x.number (x.number, x.station) less
        ∙ (let n : 0 + x.number ≡ x.number = omega arith in let s : get_or job.stations x.number x.station ≡ x.station = get_or_from_slice_get job.stations x.number x.station x.station seat.there in pair n s) in
        let there : Contains (enumerate_from 0 job.stations) (x.number, x.station) = (x.number, omega (arith, less, length-enumerate_from 0 job.stations), entry) in
        let part : pass_with scan x.station.key ≡ Some from.0 = find-only (λ (p : Pass). bytes_eq p.key x.station.key) scan.passes from.0 from.1
        ((bytes_eq-Decides from.0.key x.station.key).1 (sym seat.key))
        (λ y among equal. same-thing (λ (p : Pass). p.key) scan.passes sound.distinct y from.0 among from.1 ((bytes_eq-Decides y.key x.station.key).0 equal ∙ seat.key)) in
        let stood : stand_in scan (x.number, x.station) ≡ Some x =
        ap (option_map (λ (p : Pass). record { number = x.number; station = x.station; pass = p })) (part ∙ ap Some (sym seat.part)) in
        filter_map-to (stand_in scan) (enumerate_from 0 job.stations) (x.number, x.station) x there stood
      where
        pair : {n m : ℕ} {s t : StationFields} → n ≡ m → s ≡ t → ◌≡◌ {A = ℕ × StationFields} (n, s) (m, t)
        pair e es = cc

    from : (x : Stand) → Contains (stands_in job scan) x → Contains stands x
    from x within =
        let stood = All-contains (IsStand job scan) (stands_in job scan) x (stands-there job scan) within in
        let key : bytes_eq x.pass.key x.station.key ≡ true = find-passes (λ (p : Pass). bytes_eq p.key x.station.key) scan.passes x.pass stood.pass in
        let all : IfSome (pass_with scan x.station.key) (Contains scan.passes) = find-All (λ (p : Pass). bytes_eq p.key x.station.key) (Contains scan.passes) scan.passes (All-contains_itself scan.passes) in
        let P : Option Pass → Type 0 = λ o. IfSome o (Contains scan.passes) in
        let among : Contains scan.passes x.pass = subst P stood.pass all in
        let seat : found_at job.stations x.pass ≡ Some x = found_at-there job.stations ranges.keys x stood.there (sym ((bytes_eq-Decides x.pass.key x.station.key).0 key)) in
        let new : Contains (filter_map (found_at job.stations) scan.passes) x = filter_map-to (found_at job.stations) scan.passes x.pass x among seat in
        let old : Contains found x = rw made new in
        Contains-permutation found stands x moved old

-- an order of things by a number is one of what is read of them
pub IsNonDecreasingBy-map : {X Y : Type 0} (v : X → Y) (n : Y → ℕ) (xs : List X) → IsNonDecreasingBy (λ x. n (v x)) xs → IsNonDecreasingBy n (map v xs)
IsNonDecreasingBy-map v n [] up i j d le within = absurd (omega arith)
IsNonDecreasingBy-map v n (x ∷ xs) up i j d le within =
    let long : length (map v (x ∷ xs)) ≡ length (x ∷ xs) = length-map (x ∷ xs) v in
    let one : get_or (map v (x ∷ xs)) i d ≡ v (get_or (x ∷ xs) i x) = get_or-map v (x ∷ xs) i x d (omega arith) in
    let other : get_or (map v (x ∷ xs)) j d ≡ v (get_or (x ∷ xs) j x) = get_or-map v (x ∷ xs) j x d (omega arith) in
    rw (one, other) (up i j x le (omega arith))
