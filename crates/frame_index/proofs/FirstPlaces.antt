-- Entries that are sorted, and of which the first one of each frame is kept.
use Rattle.std.specs.Prelude.{◌==◌, ◌&&◌, ◌||◌, is_some, if◌then◌else◌}
use Rattle.std.specs.Cmp.{IsTotalOrder, IsEquivalence, unsigned_ties}
use Rattle.std.specs.Cmp.Derive.{tie, on_tied, then_tied}
use Rattle.std.specs.declared.cmp.Ordering.{Ordering}
use Rattle.std.specs.declared.cmp.Ordering.TheVariants.{Less, Equal, Greater}
use Rattle.std.specs.Ordering.{nat_cmp, int_cmp, int_eq, is_lt, is_gt, is_eq, eq_by_cmp, ordering_then, ordering_reverse, ordering_index}
use Rattle.std.specs.List.{AllPairs, Contains, dedup, dedup_from}
use Rattle.std.specs.List.Sorted.{IsPermutation, IsSorted, IsSortedBy, IsStrictlySortedBy, IsNonDecreasingBy, IsSearchInRange, IsBinarySearchResult}
use Rattle.std.specs.Map.{keys_of, lookup}
use Rattle.std.specs.Set.{distinct_count, is_member}
use Rattle.std.specs.BTreeMap.{is_at}
use Rattle.std.proofs.Common.{◌≡◌, ◌∙◌, refl, sym, ap, ap₂, ℕ, zero, suc, ◌+◌, ◌<◌, ◌≤◌, Bool, true, false, List, [], ◌∷◌, ◌++◌, Option, Some, None, Result, Ok, Err, MatchResult, length, get_or, arith}
use Rattle.std.proofs.lemmas.Cmp.{nat_cmp_total, int_cmp_total, on_total, then_total, eq_by_cmp_equiv, tied_itself}
use Rattle.std.proofs.lemmas.List.{get_or-map, map-append}
use Rattle.std.proofs.lemmas.List.Folds.{list_any-append}
use Rattle.std.proofs.lemmas.List.Kept.{IsStrictlySortedBy-dedup}
use Rattle.std.proofs.lemmas.List.Sorted.{sorted_far, ranks_by, searchable_from_sorted, list_any-IsPermutation, Contains-permutation, IsPermutation-map}
use Rattle.std.proofs.lemmas.Map.Entries.{length-keys_of, lookup_head, lookup_tail, place_from_lookup, lookup_from_place, lookup_at_gap}
use Rattle.std.proofs.lemmas.Map.Keys.{IsDistinct-from_sorted, Less-from_sorted}
use Rattle.std.proofs.lemmas.Map.Lookups.{exact_unsigned}
use Rattle.std.proofs.lemmas.Map.Made.{length-from_keys, is_some-lookup}
use Rattle.std.proofs.lemmas.Option.{get_or_from_slice_get, slice_get_within, slice_get-get_or}
use Rattle.frame_index.specs.declared.frame.Frame.{Frame}
use Rattle.frame_index.specs.declared.frame.SlotAt.{SlotAt}
use Rattle.frame_index.specs.FrameOrder.{frame_cmp, place_cmp, place_under, frames_in, AreInFileOrder}

-- a frame with a place
abbrev pub Entry : Type 0
Entry = Frame × SlotAt

-- ---- the orders

pub frame_total : IsTotalOrder frame_cmp
frame_total = then_total (on_total (λ (f : Frame). f.second) int_cmp_total) (then_total (on_total (λ (f : Frame). f.number) nat_cmp_total) (on_total (λ (f : Frame). f.thread) nat_cmp_total))

pub place_total : IsTotalOrder place_cmp
place_total = then_total (on_total (λ (p : SlotAt). p.file) nat_cmp_total) (on_total (λ (p : SlotAt). p.at) nat_cmp_total)

-- by the frame, and where that is the same by the place
abbrev pub entry_cmp : Entry → Entry → Ordering
entry_cmp a b = ordering_then (frame_cmp a.0 b.0) (place_cmp a.1 b.1)

entry_total : IsTotalOrder entry_cmp
entry_total = then_total (on_total (λ (e : Entry). e.0) frame_total) (on_total (λ (e : Entry). e.1) place_total)

abbrev pub same_frame : Frame → Frame → Bool
same_frame = eq_by_cmp frame_cmp

pub same_frame_laws : IsEquivalence same_frame
same_frame_laws = eq_by_cmp_equiv frame_total

-- what `==` of two frames says
abbrev pub equal_frames : Frame → Frame → Bool
equal_frames a b = int_eq a.second b.second && ((a.number == b.number) && (a.thread == b.thread))

pub frames_tied : (a b : Frame) → equal_frames a b ≡ same_frame a b
frames_tied =
    (then_tied (on_tied (λ (f : Frame). f.second) (tie int_cmp (λ x y. refl))) (then_tied (on_tied (λ (f : Frame). f.number) (tie nat_cmp unsigned_ties)) (on_tied (λ (f : Frame). f.thread) (tie nat_cmp unsigned_ties)))).ties

first_below : (a b : Ordering) → is_lt (ordering_then a b) ≡ false → is_lt a ≡ false
first_below Less b e = e
first_below Equal b e = refl
first_below Greater b e = refl

equal_from : (o : Ordering) → is_eq o ≡ true → o ≡ Equal
equal_from Less e = cc
equal_from Equal e = refl
equal_from Greater e = cc

is_gt-reverse : (o : Ordering) → is_gt (ordering_reverse o) ≡ is_lt o
is_gt-reverse Less = refl
is_gt-reverse Equal = refl
is_gt-reverse Greater = refl

is_lt-reverse : (o : Ordering) → is_lt (ordering_reverse o) ≡ is_gt o
is_lt-reverse Less = refl
is_lt-reverse Equal = refl
is_lt-reverse Greater = refl

-- neither goes after the other
level : (o : Ordering) → is_gt o ≡ false → is_lt o ≡ false → o ≡ Equal
level Less a b = cc
level Equal a b = refl
level Greater a b = cc

both_equal : (a b : Ordering) → ordering_then a b ≡ Equal → (a ≡ Equal) × (b ≡ Equal)
both_equal Less b e = cc
both_equal Equal b e = (refl, e)
both_equal Greater b e = cc

place_same : (v w : SlotAt) → is_gt (place_cmp v w) ≡ false → is_gt (place_cmp w v) ≡ false → v ≡ w
place_same v w a b =
    let back : is_lt (place_cmp v w) ≡ false = ap is_lt (place_total.antisymm v w) ∙ is_lt-reverse (place_cmp w v) ∙ b in
    let parts = both_equal (nat_cmp v.file w.file) (nat_cmp v.at w.at) (level (place_cmp v w) a back) in
    ap₂ (λ (file : ℕ) (at : ℕ). let p : SlotAt = record { file = file; at = at } in p) (exact_unsigned v.file w.file parts.0) (exact_unsigned v.at w.at parts.1)

-- ---- the keys of sorted entries

pub keys_sorted : (es : List Entry) → IsSorted entry_cmp es → IsSorted frame_cmp (keys_of es)
keys_sorted es up k d low high =
    let long = length-keys_of es in
    let inside : k + 1 < length es = omega (arith, long) in
    let e : Entry = (d, record { file = 0; at = 0 }) in
    rw (get_or-map (λ (e : Entry). e.0) es (k + 1) e d inside, get_or-map (λ (e : Entry). e.0) es k e d (omega arith))
    (first_below _ _ (up k e low inside))

-- ---- the first entry of each frame is kept

abbrev pub same_key : Entry → Entry → Bool
same_key a b = same_frame a.0 b.0

-- the test by `==`
abbrev pub equal_keys : Entry → Entry → Bool
equal_keys a b = equal_frames a.0 b.0

tests_tied : equal_keys ≡ same_key
tests_tied i a b = frames_tied a.0 b.0 i

pub dedup-equal_keys : (es : List Entry) → dedup equal_keys es ≡ dedup same_key es
dedup-equal_keys es = ap (λ (test : Entry → Entry → Bool). dedup test es) tests_tied

keys-chosen : (b : Bool) (xs ys : List Entry) (us vs : List Frame) → keys_of xs ≡ us → keys_of ys ≡ vs
    → keys_of (if b then xs else ys) ≡ (if b then us else vs)
keys-chosen true xs ys us vs e f = e
keys-chosen false xs ys us vs e f = f

dedup_from-keys : (k : Entry) (es : List Entry) → keys_of (dedup_from same_key k es) ≡ dedup_from same_frame k.0 (keys_of es)
dedup_from-keys k [] = refl
dedup_from-keys k (x ∷ es) =
    keys-chosen (same_key x k) (dedup_from same_key k es) (k ∷ dedup_from same_key x es) _ _ (dedup_from-keys k es) (ap (λ (fs : List Frame). k.0 ∷ fs) (dedup_from-keys x es))

dedup-keys : (es : List Entry) → keys_of (dedup same_key es) ≡ dedup same_frame (keys_of es)
dedup-keys [] = refl
dedup-keys (x ∷ es) = dedup_from-keys x es

skipped : (a b : Bool) (v w : SlotAt) (o : Option SlotAt) → b ≡ a → (if a then Some v else o) ≡ (if a then Some v else if b then Some w else o)
skipped true b v w o e = refl
skipped false b v w o e = rw e refl

lookup-dedup_from : (t : Frame → Bool) → ((x y : Frame) → same_frame x y ≡ true → t x ≡ t y) → (k : Entry) (es : List Entry)
    → lookup t (dedup_from same_key k es) ≡ lookup t (k ∷ es)
lookup-dedup_from t alike k [] = refl
lookup-dedup_from t alike k (x ∷ es) = chosen (same_key x k) refl (lookup-dedup_from t alike k es) (lookup-dedup_from t alike x es)
  where
    chosen : (b : Bool) → same_key x k ≡ b
        → lookup t (dedup_from same_key k es) ≡ lookup t (k ∷ es)
        → lookup t (dedup_from same_key x es) ≡ lookup t (x ∷ es)
        → lookup t (if b then dedup_from same_key k es else k ∷ dedup_from same_key x es) ≡ lookup t (k ∷ x ∷ es)
    chosen true e dropped kept = dropped ∙ skipped (t k.0) (t x.0) k.1 x.1 (lookup t es) (alike x.0 k.0 e)
    chosen false e dropped kept = ap (λ (o : Option SlotAt). if t k.0 then Some k.1 else o) kept

lookup-dedup : (t : Frame → Bool) → ((x y : Frame) → same_frame x y ≡ true → t x ≡ t y) → (es : List Entry)
    → lookup t (dedup same_key es) ≡ lookup t es
lookup-dedup t alike [] = refl
lookup-dedup t alike (x ∷ es) = lookup-dedup_from t alike x es

-- a frame's test answers alike at frames that are the same
at_alike : (f x y : Frame) → same_frame x y ≡ true → is_at (frame_cmp f) x ≡ is_at (frame_cmp f) y
at_alike f x y e =
    same_frame_laws.symm f x ∙ same_frame_laws.congr x y f e ∙ same_frame_laws.symm y f

pub places-dedup : (es : List Entry) (f : Frame) → place_under (dedup same_key es) f ≡ place_under es f
places-dedup es f = lookup-dedup (is_at (frame_cmp f)) (at_alike f) es

pub sorted-dedup : (es : List Entry) → IsSorted entry_cmp es → IsStrictlySortedBy frame_cmp (keys_of (dedup same_key es))
sorted-dedup es up = rw (dedup-keys es) (IsStrictlySortedBy-dedup frame_total (λ x y. refl) (keys_of es) (keys_sorted es up))

-- ---- what stands first where entries change places

-- of the entries that pass a test, none stands behind one with a later place
abbrev PassInOrder : (Frame → Bool) → List Entry → Type 0
PassInOrder t es = AllPairs (λ (a b : Entry). t a.0 ≡ true → t b.0 ≡ true → is_gt (place_cmp a.1 b.1) ≡ false) es

not_after_itself : (p : SlotAt) → is_gt (place_cmp p p) ≡ false
not_after_itself p = ap is_gt (tied_itself place_total p)

-- the place that is found is not after that of any entry that passes
least : (t : Frame → Bool) (es : List Entry) (i : ℕ) (d : Entry) → PassInOrder t es → i < length es → t (get_or es i d).0 ≡ true
    → (w : SlotAt) × (lookup t es ≡ Some w) × (is_gt (place_cmp w (get_or es i d).1) ≡ false)
least t [] i d ordered inside passes = absurd (omega arith)
least t (x ∷ es) i d ordered inside passes =
    at (t x.0) refl i inside passes
    (λ j within pass. least t es j d (λ i k e h l. ordered (suc i) (suc k) e (omega arith) (omega arith)) within pass)
  where
    at : (b : Bool) → t x.0 ≡ b → (i : ℕ) → i < length (x ∷ es) → t (get_or (x ∷ es) i d).0 ≡ true
        → ((j : ℕ) → j < length es → t (get_or es j d).0 ≡ true → (w : SlotAt) × (lookup t es ≡ Some w) × (is_gt (place_cmp w (get_or es j d).1) ≡ false))
        → (w : SlotAt) × (lookup t (x ∷ es) ≡ Some w) × (is_gt (place_cmp w (get_or (x ∷ es) i d).1) ≡ false)
    at true e zero inside passes rest = (x.1, lookup_head t x es e, not_after_itself x.1)
    at true e (suc j) inside passes rest = (x.1, lookup_head t x es e, ordered 0 (suc j) d (omega arith) inside e passes)
    at false e zero inside passes rest = cc
    at false e (suc j) inside passes rest =
        let found = rest j (omega arith) passes in
        (found.0, lookup_tail t x es e ∙ found.1, found.2)

found_least : (t : Frame → Bool) (xs ys : List Entry) (v w : SlotAt) → PassInOrder t ys → IsPermutation xs ys
    → lookup t xs ≡ Some v → lookup t ys ≡ Some w → is_gt (place_cmp w v) ≡ false
found_least t xs ys v w ordered moved found_x found_y =
    let at = place_from_lookup t xs v found_x in
    let e : Entry = (at.1, v) in
    let stands : Contains xs e = (at.0, slice_get_within xs at.0 e at.2, get_or_from_slice_get xs at.0 e e at.2) in
    let there = Contains-permutation xs ys e moved stands in
    let first = least t ys there.0 e ordered there.1 (ap (λ (x : Entry). t x.0) there.2 ∙ at.3) in
    let same : first.0 ≡ w = cc in
    let read : (get_or ys there.0 e).1 ≡ v = ap (λ (x : Entry). x.1) there.2 in
    rw (same, read) at first.2

lookup_same : (t : Frame → Bool) (xs ys : List Entry) → PassInOrder t xs → PassInOrder t ys → IsPermutation xs ys → IsPermutation ys xs
    → lookup t xs ≡ lookup t ys
lookup_same t xs ys in_x in_y there back = both (lookup t xs) (lookup t ys) refl refl
  where
    alike : is_some (lookup t xs) ≡ is_some (lookup t ys)
    alike = is_some-lookup t xs
        ∙ list_any-IsPermutation t (keys_of xs) (keys_of ys) (IsPermutation-map (λ (e : Entry). e.0) xs ys there)
        ∙ sym (is_some-lookup t ys)

    both : (v w : Option SlotAt) → lookup t xs ≡ v → lookup t ys ≡ w → lookup t xs ≡ lookup t ys
    both None None e f = e ∙ sym f
    both None (Some w) e f = let no : false ≡ true = ap is_some (sym e) ∙ alike ∙ ap is_some f in cc
    both (Some v) None e f = let no : true ≡ false = ap is_some (sym e) ∙ alike ∙ ap is_some f in cc
    both (Some v) (Some w) e f =
        e ∙ ap Some (place_same v w (found_least t ys xs w v in_x back f e) (found_least t xs ys v w in_y there e f)) ∙ sym f

-- entries whose places follow one another, and those that are sorted
pass-in-file-order : (t : Frame → Bool) (es : List Entry) → AreInFileOrder es → PassInOrder t es
pass-in-file-order t es ordered i j d h l a b = ordered i j d h l

later : (f a b : Frame) (p q : SlotAt) → is_at (frame_cmp f) a ≡ true → is_at (frame_cmp f) b ≡ true
    → is_lt (ordering_then (frame_cmp b a) (place_cmp q p)) ≡ false → is_gt (place_cmp p q) ≡ false
later f a b p q to_a to_b up =
    let same : frame_cmp b a ≡ Equal = sym (frame_total.congr f b a (equal_from _ to_b)) ∙ equal_from _ to_a in
    let below : is_lt (place_cmp q p) ≡ false = ap (λ (o : Ordering). is_lt (ordering_then o (place_cmp q p))) (sym same) ∙ up in
    ap is_gt (place_total.antisymm p q) ∙ is_gt-reverse (place_cmp q p) ∙ below

pass-sorted : (f : Frame) (es : List Entry) → IsSorted entry_cmp es → PassInOrder (is_at (frame_cmp f)) es
pass-sorted f es up i j d h l a b =
    later f (get_or es i d).0 (get_or es j d).0 (get_or es i d).1 (get_or es j d).1 a b
    (sorted_far _ (ranks_by entry_total (λ (e : Entry). e)) es up i j d (omega arith) l)

pub places-sorted : (xs ys : List Entry) (f : Frame) → AreInFileOrder xs → IsSorted entry_cmp ys → IsPermutation xs ys → IsPermutation ys xs
    → place_under ys f ≡ place_under xs f
places-sorted xs ys f ordered up there back =
    sym (lookup_same (is_at (frame_cmp f)) xs ys (pass-in-file-order (is_at (frame_cmp f)) xs ordered) (pass-sorted f ys up) there back)

-- ---- how many are kept

pub length-dedup : (xs ys : List Entry) → IsSorted entry_cmp ys → IsPermutation xs ys → length (dedup same_key ys) ≡ frames_in xs
length-dedup xs ys up moved =
    sym (length-keys_of (dedup same_key ys))
    ∙ length-from_keys same_frame_laws (keys_of (dedup same_key ys)) (keys_of xs)
    (IsDistinct-from_sorted frame_cmp (keys_of (dedup same_key ys)) (sorted-dedup ys up))
    (λ q. sym (is_some-lookup (is_at (frame_cmp q)) (dedup same_key ys))
    ∙ ap is_some (places-dedup ys q)
    ∙ is_some-lookup (is_at (frame_cmp q)) ys
    ∙ sym (list_any-IsPermutation (is_at (frame_cmp q)) (keys_of xs) (keys_of ys) (IsPermutation-map (λ (e : Entry). e.0) xs ys moved)))

-- ---- one more frame

length-chosen : (b : Bool) (xs ys : List Frame) → length (if b then xs else ys) ≡ (if b then length xs else length ys)
length-chosen true xs ys = refl
length-chosen false xs ys = refl

push_step : (b m s : Bool) (n l : ℕ) → l ≡ n + (if m then 0 else 1) → (s ≡ true → b ≡ m)
    → (if b || (s || false) then l else suc l) ≡ (if b then n else suc n) + (if s || m then 0 else 1)
push_step true true true n l e same = omega arith
push_step true false true n l e same = let no : true ≡ false = same refl in cc
push_step false true true n l e same = let no : false ≡ true = same refl in cc
push_step false false true n l e same = omega arith
push_step true true false n l e same = omega arith
push_step true false false n l e same = omega arith
push_step false true false n l e same = omega arith
push_step false false false n l e same = omega arith

distinct_count-push : (fs : List Frame) (f : Frame)
    → distinct_count same_frame (fs ++ f ∷ []) ≡ distinct_count same_frame fs + (if is_member same_frame fs f then 0 else 1)
distinct_count-push [] f = refl
distinct_count-push (x ∷ fs) f =
    length-chosen (is_member same_frame (fs ++ f ∷ []) x) _ _
    ∙ ap (λ (b : Bool). if b then distinct_count same_frame (fs ++ f ∷ []) else suc (distinct_count same_frame (fs ++ f ∷ []))) (list_any-append (same_frame x) fs (f ∷ []))
    ∙ push_step (is_member same_frame fs x) (is_member same_frame fs f) (same_frame x f) (distinct_count same_frame fs) (distinct_count same_frame (fs ++ f ∷ []))
    (distinct_count-push fs f) (λ same. alike fs same)
    ∙ ap₂ (λ (n : ℕ) (b : Bool). n + (if b || is_member same_frame fs f then 0 else 1))
    (sym (length-chosen (is_member same_frame fs x) _ _)) (same_frame_laws.symm x f)
  where
    alike : (gs : List Frame) → same_frame x f ≡ true → is_member same_frame gs x ≡ is_member same_frame gs f
    alike [] same = refl
    alike (g ∷ gs) same = ap₂ (λ (a b : Bool). a || b) (same_frame_laws.congr x f g same) (alike gs same)

pub frames_in-push : (es : List Entry) (e : Entry)
    → frames_in (es ++ e ∷ []) ≡ frames_in es + (if is_some (place_under es e.0) then 0 else 1)
frames_in-push es e =
    ap (distinct_count same_frame) (map-append (λ (e : Entry). e.0) es (e ∷ []))
    ∙ distinct_count-push (keys_of es) e.0
    ∙ ap (λ (b : Bool). frames_in es + (if b then 0 else 1)) (sym (is_some-lookup (is_at (frame_cmp e.0)) es))

-- ---- a search among them

lookup-test : (t u : Frame → Bool) → ((f : Frame) → t f ≡ u f) → (es : List Entry) → lookup t es ≡ lookup u es
lookup-test t u same [] = refl
lookup-test t u same (x ∷ es) = ap₂ (λ (b : Bool) (o : Option SlotAt). if b then Some x.1 else o) (same x.0) (lookup-test t u same es)

place_under-hit : (es : List Entry) (i : ℕ) (e : Entry) (f : Frame) → IsStrictlySortedBy frame_cmp (keys_of es)
    → i < length es → e ≡ get_or es i e → frame_cmp e.0 f ≡ Equal → Some e.1 ≡ place_under es f
place_under-hit es i e f up inside read hit =
    sym (lookup_from_place same_frame_laws es i e.0 e.1 (IsDistinct-from_sorted frame_cmp (keys_of es) up)
    (slice_get-get_or es i e inside ∙ ap Some (sym read)))
    ∙ lookup-test (is_at (frame_cmp e.0)) (is_at (frame_cmp f)) (λ x. same_frame_laws.congr e.0 f x (ap is_eq hit)) es

entries_rise : (es : List Entry) → IsStrictlySortedBy frame_cmp (keys_of es) → IsSortedBy (λ (a b : Entry). is_lt (frame_cmp a.0 b.0)) es
entries_rise es up k d low high =
    let long = length-keys_of es in
    let less = Less-from_sorted frame_cmp (keys_of es) k (k + 1) d.0 up (omega arith) (omega (arith, long)) in
    let read : frame_cmp (get_or es k d).0 (get_or es (k + 1) d).0 ≡ Less =
    ap₂ frame_cmp (sym (get_or-map (λ (e : Entry). e.0) es k d d.0 (omega arith))) (sym (get_or-map (λ (e : Entry). e.0) es (k + 1) d d.0 high)) ∙ less in
    ap is_lt (frame_total.antisymm (get_or es (k + 1) d).0 (get_or es k d).0 ∙ ap ordering_reverse read)

searchable : (es : List Entry) (f : Frame) → IsStrictlySortedBy frame_cmp (keys_of es)
    → IsNonDecreasingBy (λ (e : Entry). ordering_index (frame_cmp e.0 f)) es
searchable es f up = searchable_from_sorted frame_total (λ (e : Entry). e.0) es f (entries_rise es up)

place_under-gap : (es : List Entry) (i : ℕ) (f : Frame) → IsStrictlySortedBy frame_cmp (keys_of es)
    → ((k : ℕ) (d : Entry) → k < i → frame_cmp (get_or es k d).0 f ≡ Less)
    → ((k : ℕ) (d : Entry) → i ≤ k → k < length es → frame_cmp (get_or es k d).0 f ≡ Greater)
    → place_under es f ≡ None
place_under-gap es i f up before behind =
    lookup_at_gap frame_total f es i up
    (λ j e h is. frame_total.antisymm f e.0 ∙ ap ordering_reverse (ap (λ (x : Entry). frame_cmp x.0 f) (sym (get_or_from_slice_get es j e e is)) ∙ before j e h))
    (λ e is. frame_total.antisymm f e.0 ∙ ap ordering_reverse (ap (λ (x : Entry). frame_cmp x.0 f) (sym (get_or_from_slice_get es i e e is)) ∙ behind i e (omega arith) (slice_get_within es i e is)))

-- what a search by the keys comes to
pub searched : (es : List Entry) (f : Frame) (r : Result ℕ ℕ) → IsStrictlySortedBy frame_cmp (keys_of es)
    → IsSearchInRange r (length es) → IsBinarySearchResult (λ (e : Entry). frame_cmp e.0 f) es r
    → MatchResult r (λ i. (e : Entry) → e ≡ get_or es i e → Some e.1 ≡ place_under es f) (λ _. None ≡ place_under es f)
searched es f (Ok i) up inside hit = λ e read. place_under-hit es i e f up inside read (ap (λ (x : Entry). frame_cmp x.0 f) read ∙ hit e)
searched es f (Err i) up inside gap =
    let parted = gap (searchable es f up) in
    sym (place_under-gap es i f up (λ k d h. parted.0 k d (omega arith) h) (λ k d h l. parted.1 k d h l))
