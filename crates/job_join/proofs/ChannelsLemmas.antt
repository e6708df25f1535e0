-- The channels of a job.
use Rattle.std.proofs.Common.{◌≡◌, ℕ, ◌+◌, ◌<◌, Bool, true, false, not, cond, List, [], ◌∷◌, ◌++◌, take, length, get_or, fold, flat_map, filter_map, None, Some, Option, ap, refl, sym, ◌∙◌, bytes_eq, eqb, is_some, ◌||◌, ◌&&◌, slice_get}
use Rattle.std.specs.List.{list_any, cons_option}
use Rattle.std.proofs.lemmas.Bool.{eq-eqb}
use Rattle.std.proofs.lemmas.List.{append-nil, append_assoc, take_more}
use Rattle.std.proofs.lemmas.List.Concat.{flat_map-append}
use Rattle.std.proofs.lemmas.Grind.{fold-append}
use Rattle.std.proofs.lemmas.Option.{slice_get_within, get_or_from_slice_get}
use Rattle.std.proofs.lemmas.Slice.Eq.{bytes_eq-Decides}
use Rattle.named_list.specs.Named.{named, names, put}
use Rattle.scan_list.specs.declared.scan.Chan.{Chan}
use Rattle.job_join.specs.declared.stands.Here.{Here}
use Rattle.job_join.specs.Standing.{Stand, is_among}
use Rattle.job_join.specs.Channels.{first_uses, chan_with, same_side, is_same_band, differ, are_different}
use Rattle.job_join.specs.Places.{stands_of, chans_under}
use Rattle.job_join.proofs.Sets.{is_some_put}

-- ---- first uses

abbrev pub Used : Type 0
Used = List (List ℕ × Unit {0})

abbrev pub use_of : Used → List ℕ → Used
use_of xs name = put xs name tt

abbrev pub two_of : List ℕ × List ℕ → List (List ℕ)
two_of p = p.0 ∷ p.1 ∷ []

-- the channels that are put one after the other
abbrev pub used : List (List ℕ × List ℕ) → Used
used products = fold use_of [] (flat_map two_of products)

pub used-turn : (products : List (List ℕ × List ℕ)) (i : ℕ) (x y : List ℕ) (xs zs : Used) → slice_get products i ≡ Some (x, y) → xs ≡ used (take i products) → zs ≡ put (put xs x tt) y tt
    → zs ≡ used (take (i + 1) products)
used-turn products i x y xs zs is so_far new =
    let less : i < length products = slice_get_within products i (x, y) is in
    let here : get_or products i (x, y) ≡ (x, y) = get_or_from_slice_get products i (x, y) (x, y) is in
    let more : take (i + 1) products ≡ take i products ++ (x, y) ∷ [] = take_more products i (x, y) less ∙ ap (λ (p : List ℕ × List ℕ). take i products ++ p ∷ []) here in
    new ∙ ap (λ (us : Used). put (put us x tt) y tt) so_far
    ∙ sym (ap used more ∙ ap (fold use_of []) (flat_map-append two_of (take i products) ((x, y) ∷ [])) ∙ fold-append use_of [] (flat_map two_of (take i products)) (x ∷ y ∷ []))

names-put_new : (xs : Used) (name : List ℕ) → is_some (named xs name) ≡ false → names (put xs name tt) ≡ names xs ++ name ∷ []
names-put_new [] name new = refl
names-put_new (x ∷ xs) name new = by (bytes_eq x.0 name) new (names-put_new xs name)
  where
    by : (b : Bool) → is_some (cond b (Some x.1) (named xs name)) ≡ false → (is_some (named xs name) ≡ false → names (put xs name tt) ≡ names xs ++ name ∷ [])
        → names (cond b ((x.0, tt) ∷ xs) (x ∷ put xs name tt)) ≡ x.0 ∷ (names xs ++ name ∷ [])
    by true e rest = absurd cc
    by false e rest = ap (λ others. x.0 ∷ others) (rest e)

names-put_old : (xs : Used) (name : List ℕ) → is_some (named xs name) ≡ true → names (put xs name tt) ≡ names xs
names-put_old [] name old = absurd cc
names-put_old (x ∷ xs) name old = by (bytes_eq x.0 name) old (names-put_old xs name)
  where
    by : (b : Bool) → is_some (cond b (Some x.1) (named xs name)) ≡ true → (is_some (named xs name) ≡ true → names (put xs name tt) ≡ names xs)
        → names (cond b ((x.0, tt) ∷ xs) (x ∷ put xs name tt)) ≡ x.0 ∷ names xs
    by true e rest = refl
    by false e rest = ap (λ others. x.0 ∷ others) (rest e)

names-fold : (ns before : List (List ℕ)) (xs : Used) → ((q : List ℕ) → is_among q before ≡ is_some (named xs q)) → names (fold use_of xs ns) ≡ names xs ++ first_uses before ns
names-fold [] before xs same = sym (append-nil (names xs))
names-fold (n ∷ ns) before xs same = by (is_among n before) refl (λ others ys h. names-fold ns others ys h)
  where
    by : (b : Bool) → is_among n before ≡ b
        → ((others : List (List ℕ)) (ys : Used) → ((q : List ℕ) → is_among q others ≡ is_some (named ys q)) → names (fold use_of ys ns) ≡ names ys ++ first_uses others ns)
        → names (fold use_of (put xs n tt) ns) ≡ names xs ++ cond b (first_uses before ns) (n ∷ first_uses (n ∷ before) ns)
    by true e rest = rest before (put xs n tt) kept ∙ ap (λ front. front ++ first_uses before ns) (names-put_old xs n there)
      where
        there : is_some (named xs n) ≡ true
        there = sym (same n) ∙ e

        kept : (q : List ℕ) → is_among q before ≡ is_some (named (put xs n tt) q)
        kept q = one (bytes_eq n q) refl
          where
            one : (b : Bool) → bytes_eq n q ≡ b → is_among q before ≡ is_some (named (put xs n tt) q)
            one true equal =
                let here : n ≡ q = (bytes_eq-Decides n q).0 equal in
                let old : is_some (named xs q) ≡ true = ap (λ m. is_some (named xs m)) (sym here) ∙ there in
                same q ∙ sym (is_some_put xs (put xs n tt) n q refl ∙ ap (λ t. t || bytes_eq n q) old ∙ sym old)
            one false other = same q ∙ sym (is_some_put xs (put xs n tt) n q refl ∙ ap (λ t. is_some (named xs q) || t) other ∙ or_none (is_some (named xs q)))
              where
                or_none : (t : Bool) → (t || false) ≡ t
                or_none true = refl
                or_none false = refl
    by false e rest =
        rest (n ∷ before) (put xs n tt) more ∙ ap (λ front. front ++ first_uses (n ∷ before) ns) (names-put_new xs n (sym (same n) ∙ e))
        ∙ append_assoc (names xs) (n ∷ []) (first_uses (n ∷ before) ns)
      where
        more : (q : List ℕ) → (bytes_eq n q || is_among q before) ≡ is_some (named (put xs n tt) q)
        more q = ap (λ t. bytes_eq n q || t) (same q) ∙ turned (bytes_eq n q) (is_some (named xs q)) ∙ sym (is_some_put xs (put xs n tt) n q refl)
          where
            turned : (a b : Bool) → (a || b) ≡ (b || a)
            turned true true = refl
            turned true false = refl
            turned false true = refl
            turned false false = refl

-- their names are the first uses
pub names-used : (products : List (List ℕ × List ℕ)) → names (used products) ≡ first_uses [] (flat_map two_of products)
names-used products = names-fold (flat_map two_of products) [] [] (λ q. refl)

-- ---- bands

abbrev any_different : Option Chan → List Chan → Bool
any_different None chans = false
any_different (Some c) chans = list_any (λ d. not (is_same_band c d)) chans

any-different : {X : Type 0} (h : X → Option Chan) (o : Option Chan) (xs : List X) → list_any (λ x. are_different o (h x)) xs ≡ any_different o (filter_map h xs)
any-different h None [] = refl
any-different h None (x ∷ xs) = any-different h None xs
any-different h (Some c) [] = refl
any-different h (Some c) (x ∷ xs) = by (h x) (any-different h (Some c) xs)
  where
    by : (o : Option Chan) → list_any (λ x. are_different (Some c) (h x)) xs ≡ list_any (λ d. not (is_same_band c d)) (filter_map h xs)
        → (are_different (Some c) o || list_any (λ x. are_different (Some c) (h x)) xs) ≡ list_any (λ d. not (is_same_band c d)) (cons_option o (filter_map h xs))
    by None rest = rest
    by (Some d) rest = ap (λ t. not (is_same_band c d) || t) rest

is_same_band-same : (c : Chan) → is_same_band c c ≡ true
is_same_band-same c = by (eqb c.hertz c.hertz) (same_side c.upper c.upper) (eqb c.band_hertz c.band_hertz) (eq-eqb c.hertz c.hertz refl) (side c.upper) (eq-eqb c.band_hertz c.band_hertz refl)
  where
    side : (b : Bool) → same_side b b ≡ true
    side true = refl
    side false = refl

    by : (a b d : Bool) → a ≡ true → b ≡ true → d ≡ true → (a && (b && d)) ≡ true
    by a b d one two three = ap (λ t. t && (b && d)) one ∙ ap (λ t. t && d) two ∙ three

-- some channels differ where one is unlike the first of them
pub differ-first : (chans : List Chan) → any_different (slice_get chans 0) chans ≡ differ chans
differ-first [] = refl
differ-first (c ∷ chans) = ap (λ t. not t || list_any (λ d. not (is_same_band c d)) chans) (is_same_band-same c)

chans-stands : (name : List ℕ) (hs : List Here) → filter_map (λ (h : Here). chan_with h.pass.now name) hs ≡ chans_under (stands_of hs) name
chans-stands name [] = refl
chans-stands name (h ∷ hs) = ap (cons_option (chan_with h.pass.now name)) (chans-stands name hs)

pub differ-by_first : (hs : List Here) (name : List ℕ)
    → list_any (λ (h : Here). are_different (slice_get (chans_under (stands_of hs) name) 0) (chan_with h.pass.now name)) hs ≡ differ (chans_under (stands_of hs) name)
differ-by_first hs name =
    any-different (λ (h : Here). chan_with h.pass.now name) (slice_get (chans_under (stands_of hs) name) 0) hs
    ∙ ap (any_different (slice_get (chans_under (stands_of hs) name) 0)) (chans-stands name hs)
    ∙ differ-first (chans_under (stands_of hs) name)

-- the channels of a product differ at some stations
abbrev pub is_unlike : List Stand → List ℕ × List ℕ → Bool
is_unlike stands p = are_different (slice_get (chans_under stands p.0) 0) (slice_get (chans_under stands p.1) 0)
