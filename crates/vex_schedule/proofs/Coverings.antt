-- What was found of the refs of a mode.
use Rattle.std.proofs.Common.{◌≡◌, ℕ, zero, suc, ◌+◌, ◌<◌, Bool, true, false, cond, eqb, ◌&&◌, ◌||◌, ◌==◌, List, [], ◌∷◌, ◌++◌, length, take, drop, filter, get_or, slice_get, Some, Ok, bytes_eq, arith, refl, sym, ap, ◌∙◌, ◌⊎◌, inl, inr, ⊎_elim, subst}
use Rattle.std.specs.Prelude.{option_map, unwrap_or}
use Rattle.std.specs.List.{list_any}
use Rattle.std.proofs.lemmas.Bool.{false≢true}
use Rattle.std.proofs.lemmas.List.{take_all}
use Rattle.std.proofs.lemmas.List.Elements.{filter_more, filter_agree}
use Rattle.std.proofs.lemmas.List.Folds.{list_any_more}
use Rattle.std.proofs.lemmas.Option.{get_or_from_slice_get}
use Rattle.std.proofs.lemmas.Slice.Eq.{bytes_eq-Decides}
use Rattle.vex_reader.specs.declared.file.Item.{Item}
use Rattle.vex_reader.specs.declared.file.Statement.{Statement}
use Rattle.named_list.specs.Named.{named, put}
use Rattle.named_list.proofs.NamedLemmas.{named-put_at}
use Rattle.vex_schedule.specs.declared.covering.Found.{Found}
use Rattle.vex_schedule.specs.declared.covering.Found.TheVariants.{Nowhere, Once, Often}
use Rattle.vex_schedule.specs.declared.covering.Covering.{Covering}
use Rattle.vex_schedule.specs.Statements.{only, is_just, covers, is_setup}
use Rattle.vex_schedule.specs.Covering.{is_to_freq, covers_each, covers_by, noted, noted_if, found_in, IsOnlyAt, IsFound, IsCovering}

bytes_same : (x y : List ℕ) → bytes_eq x y ≡ true → x ≡ y
bytes_same x y e = (bytes_eq-Decides x y).0 e

pub found_in-put : (xs : List (List ℕ × Found)) (name : List ℕ) (found : Found) (key : List ℕ) → found_in (put xs name found) key ≡ cond (bytes_eq name key) found (found_in xs key)
found_in-put xs name found key = ap (λ o. unwrap_or o Nowhere) (named-put_at xs name found key) ∙ by (bytes_eq name key)
  where
    by : (b : Bool) → unwrap_or (cond b (Some found) (named xs key)) Nowhere ≡ cond b found (unwrap_or (named xs key) Nowhere)
    by true = refl
    by false = refl

-- what is noted under a name is noted for the key that it is
pub found_in-noted : (xs ys : List (List ℕ × Found)) (name : List ℕ) (i : ℕ) (key : List ℕ) → ys ≡ put xs name (noted (found_in xs name) i)
    → found_in ys key ≡ noted_if (bytes_eq name key) (found_in xs key) i
found_in-noted xs ys name i key puts = ap (λ zs. found_in zs key) puts ∙ found_in-put xs name (noted (found_in xs name) i) key ∙ by (bytes_eq name key) refl
  where
    by : (b : Bool) → bytes_eq name key ≡ b → cond b (noted (found_in xs name) i) (found_in xs key) ≡ cond b (noted (found_in xs key) i) (found_in xs key)
    by true e = ap (λ k. noted (found_in xs k) i) (bytes_same name key e)
    by false e = refl

-- what is found twice at one place counts once
noted-noted : (f : Found) (i : ℕ) → noted (noted f i) i ≡ noted f i
noted-noted Nowhere i = rw (eqb-same i) refl
  where
    eqb-same : (n : ℕ) → eqb n n ≡ true
    eqb-same n = grind arith
noted-noted (Once at) i = by (eqb at i) refl
  where
    by : (b : Bool) → eqb at i ≡ b → noted (cond b (Once at) Often) i ≡ cond b (Once at) Often
    by true e = rw e refl
    by false e = refl
noted-noted Often i = refl

noted_if-or : (a b : Bool) (f : Found) (i : ℕ) → noted_if b (noted_if a f i) i ≡ noted_if (a || b) f i
noted_if-or true true f i = noted-noted f i
noted_if-or true false f i = refl
noted_if-or false b f i = refl

-- one more value read
pub found_in-more : (key : List ℕ) (values : List (List (List ℕ))) (i place : ℕ) (value : List (List ℕ)) (was now then : Found) → i < length values → value ≡ get_or values i value
    → now ≡ noted_if (list_any (is_just key) (take i values)) was place → then ≡ noted_if (is_just key value) now place
    → then ≡ noted_if (list_any (is_just key) (take (i + 1) values)) was place
found_in-more key values i place value was now then less is so_far noted_here =
    noted_here ∙ ap (λ f. noted_if (is_just key value) f place) so_far ∙ noted_if-or (list_any (is_just key) (take i values)) (is_just key value) was place
    ∙ ap (λ b. noted_if b was place) (ap (λ v. list_any (is_just key) (take i values) || is_just key v) is ∙ sym (list_any_more (is_just key) values i value less))

-- what was found of one statement more
pub IsFound-more : (test : Statement → Bool) (xs : List Statement) (n : ℕ) (x : Statement) (f : Found) → n < length xs → slice_get xs n ≡ Some x → IsFound test xs n f
    → IsFound test xs (n + 1) (noted_if (test x) f n)
IsFound-more test xs n x f less is found =
    let here : get_or xs n x ≡ x = get_or_from_slice_get xs n x x is in
    let more : filter test (take (n + 1) xs) ≡ filter test (take n xs) ++ cond (test x) (x ∷ []) [] = filter_more test xs n x less ∙ ap (λ y. filter test (take n xs) ++ cond (test y) (y ∷ []) []) here in
    by (test x) refl f found more
  where
    by : (b : Bool) → test x ≡ b → (f : Found) → IsFound test xs n f → filter test (take (n + 1) xs) ≡ filter test (take n xs) ++ cond b (x ∷ []) [] → IsFound test xs (n + 1) (noted_if b f n)
    by true e Nowhere found more = record { statement = x; before = omega arith; there = is; only = more ∙ ap (λ front. front ++ x ∷ []) found }
    by false e Nowhere found more = more ∙ ap (λ front. front ++ []) found
    by false e (Once at) found more =
        record { statement = found.statement; before = omega (arith, found.before); there = found.there; only = more ∙ ap (λ front. front ++ []) found.only }
    by true e (Once at) found more = apart (eqb at n) refl
      where
        apart : (c : Bool) → eqb at n ≡ c → IsFound test xs (n + 1) (cond c (Once at) Often)
        apart true same = absurd (let differ : eqb at n ≡ false = grind (arith, found.before) in false≢true (sym differ ∙ same))
        apart false same = tt
    by b e Often found more = often b
      where
        often : (b : Bool) → IsFound test xs (n + 1) (noted_if b Often n)
        often true = tt
        often false = tt

-- a ref sets up a station if it covers each, or has the station's key
is_setup-or : (key : List ℕ) (s : Statement) → is_setup key s ≡ (covers_each s || covers_by key s)
unfolding is_setup covers
is_setup-or key s = by (is_to_freq s) (length s.values == 1) (list_any (is_just key) (drop 1 s.values))
  where
    by : (a b c : Bool) → (a && (b || c)) ≡ ((a && b) || (a && c))
    by true b c = refl
    by false b c = refl

module _ (p q : Statement → Bool) where
  filter-or_left : (xs : List Statement) → filter p xs ≡ [] → filter (λ x. p x || q x) xs ≡ filter q xs
  filter-or_left [] none = refl
  filter-or_left (x ∷ xs) none = by (p x) refl (filter-or_left xs)
    where
      by : (b : Bool) → p x ≡ b → (filter p xs ≡ [] → filter (λ y. p y || q y) xs ≡ filter q xs) → cond (b || q x) (x ∷ filter (λ y. p y || q y) xs) (filter (λ y. p y || q y) xs) ≡ cond (q x) (x ∷ filter q xs) (filter q xs)
      by true e rest = absurd (let some : filter p (x ∷ xs) ≡ x ∷ filter p xs = rw e refl in cc)
      by false e rest =
          let behind : filter p xs ≡ [] = sym (let skip : filter p (x ∷ xs) ≡ filter p xs = rw e refl in skip) ∙ none in
          ap (λ others. cond (q x) (x ∷ others) others) (rest behind)

or_comm : (a b : Bool) → (a || b) ≡ (b || a)
or_comm true true = refl
or_comm true false = refl
or_comm false true = refl
or_comm false false = refl

-- the one ref of those that cover each, or of those that have the key, where none is of the others
module _ (key : List ℕ) (xs : List Statement) (place : ℕ) where
  setups : filter (is_setup key) (take (length xs) xs) ≡ filter (λ s. covers_each s || covers_by key s) (take (length xs) xs)
  setups = filter_agree (is_setup key) (λ s. covers_each s || covers_by key s) (is_setup-or key) (take (length xs) xs)

  pub setup-each : IsFound covers_each xs (length xs) (Once place) → IsFound (covers_by key) xs (length xs) Nowhere → IsOnlyAt (is_setup key) xs (length xs) place
  setup-each one none = record {
    statement = one.statement;
    before = one.before;
    there = one.there;
    only = setups
        ∙ filter_agree (λ s. covers_each s || covers_by key s) (λ s. covers_by key s || covers_each s) (λ s. or_comm (covers_each s) (covers_by key s)) (take (length xs) xs)
        ∙ filter-or_left (covers_by key) covers_each (take (length xs) xs) none ∙ one.only;
  }

  pub setup-by_key : IsFound covers_each xs (length xs) Nowhere → IsFound (covers_by key) xs (length xs) (Once place) → IsOnlyAt (is_setup key) xs (length xs) place
  setup-by_key none one = record {
    statement = one.statement;
    before = one.before;
    there = one.there;
    only = setups ∙ filter-or_left covers_each (covers_by key) (take (length xs) xs) none ∙ one.only;
  }

-- one more of some things stands at its place
pub slice_get-push : {A : Type 0} (xs : List A) (x y : A) (i : ℕ) → slice_get (xs ++ x ∷ []) i ≡ Some y → (slice_get xs i ≡ Some y) ⊎ ((i ≡ length xs) × (x ≡ y))
slice_get-push [] x y zero is = inr (refl, (cc))
slice_get-push [] x y (suc i) is = absurd cc
slice_get-push (z ∷ xs) x y zero is = inl is
slice_get-push (z ∷ xs) x y (suc i) is = ⊎_elim inl (λ p. inr (omega (arith, p.0), p.1)) (slice_get-push xs x y i is)

-- what is known of the coverings so far
abbrev pub SoFar : List Covering → List (List ℕ × Item) → Type 0
SoFar coverings defs = (k : ℕ) (covering : Covering) (mode : Item) → slice_get coverings k ≡ Some covering
    → option_map (λ x. x.1) (slice_get defs k) ≡ Some mode → IsCovering mode.statements (length mode.statements) covering

-- one more of them, of the next def
pub SoFar-push : (coverings more : List Covering) (defs : List (List ℕ × Item)) (i : ℕ) (covering : Covering) (entry : List ℕ × Item) → length coverings ≡ i → SoFar coverings defs
    → slice_get defs i ≡ Some entry → IsCovering entry.1.statements (length entry.1.statements) covering → more ≡ coverings ++ covering ∷ [] → SoFar more defs
SoFar-push coverings more defs i covering entry long so_far is found pushed = λ k other mode there def.
    let stands : slice_get (coverings ++ covering ∷ []) k ≡ Some other = ap (λ l. slice_get l k) (sym pushed) ∙ there in
    ⊎_elim (λ old. so_far k other mode old def)
    (λ new.
    let at : slice_get defs k ≡ Some entry = ap (slice_get defs) (new.0 ∙ long) ∙ is in
    let same : entry.1 ≡ mode = (let both : option_map (λ x. x.1) (Some entry) ≡ Some mode = ap (option_map (λ x. x.1)) (sym at) ∙ def in cc) in
    let P : Item → Covering → Type 0 = λ m c. IsCovering m.statements (length m.statements) c in
    subst (λ c. P mode c) new.1 (subst (λ m. P m covering) same found))
    (slice_get-push coverings covering other k stands)

-- what is read at the place of the only one is the only one
pub only-at : (at : ℕ) (test : Statement → Bool) (xs : List Statement) (place : ℕ) (read : Statement) → IsOnlyAt test xs (length xs) place → read ≡ get_or xs place read → Ok read ≡ only at (filter test xs)
unfolding only
only-at at test xs place read one is =
    let all : filter test xs ≡ one.statement ∷ [] = ap (filter test) (sym (take_all (length xs) xs (omega arith))) ∙ one.only in
    let same : read ≡ one.statement = is ∙ get_or_from_slice_get xs place one.statement read one.there in
    rw all (ap Ok same)
