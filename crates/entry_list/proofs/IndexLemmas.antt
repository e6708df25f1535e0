-- What the index says of the entries, and what keeps it.
use Rattle.std.specs.BTreeMap.{BTreeMap, get, is_at, IsUnchanged, Updates}
use Rattle.std.specs.Map.{lookup}
use Rattle.std.specs.Cmp.{int_ranks}
use Rattle.std.specs.Ordering.{int_cmp, is_eq, is_lt, is_gt, MatchOrdering}
use Rattle.std.specs.Option.{IsSome, is_some}
use Rattle.std.specs.Result.{OnOk, OnErr, is_err}
use Rattle.std.specs.List.{All, Contains}
use Rattle.std.specs.declared.cmp.Ordering.{Ordering}
use Rattle.std.specs.declared.cmp.Ordering.TheVariants.{Less, Equal, Greater}
use Rattle.std.proofs.Common.{◌≡◌, ◌≢◌, ◌∙◌, sym, ap, subst, refl, List, [], ◌∷◌, ◌++◌, ◌⊎◌, inl, inr, ⊎_elim, Bool, true, false, Option, Some, None, Result, Ok, Err, ℕ, ◌-◌, length, take, get_or, ℤ, ◌<ℤ◌, ◌≤ℤ◌, arith}
use Rattle.std.proofs.lemmas.Int.{ints}
use Rattle.std.proofs.lemmas.Bool.{cond-true, cases_lt}
use Rattle.std.proofs.lemmas.List.{length-append, get_or_push, take-append-le, take_all}
use Rattle.std.proofs.Math.ListN.{get_or-append}
use Rattle.std.proofs.lemmas.List.Elements.{All-push, All-contains, Contains-push, Contains-append_left}
use Rattle.std.proofs.lemmas.Map.Lookups.{exact_signed}
use Rattle.entry_list.specs.Latest.{DifferInSecond, IsInForce, IsNext}
use Rattle.entry_list.specs.Index.{IsIndex, IsGreatestUpTo, IsUnderGreatest, IsLeastAfter, IsLeastKey}

pub int_cases : (a b : ℤ) → (a <ℤ b) ⊎ (b ≤ℤ a)
int_cases a b = grind (arith, ints)

bool_cases : (b : Bool) → (b ≡ true) ⊎ (b ≡ false)
bool_cases true = inl refl
bool_cases false = inr refl

at_same : (r : Ordering) → is_eq r ≡ true → r ≡ Equal
at_same Less h = absurd (cc)
at_same Equal h = refl
at_same Greater h = absurd (cc)

-- the test for a key passes at that key alone
pub is_at-true : (s k : ℤ) → is_at (int_cmp s) k ≡ true → s ≡ k
is_at-true s k h = exact_signed s k (at_same (int_cmp s k) h)

pub is_at-false : (s k : ℤ) → s ≢ k → is_at (int_cmp s) k ≡ false
is_at-false s k apart = ⊎_elim (λ same. absurd (apart (is_at-true s k same))) (λ no_match. no_match) (bool_cases (is_at (int_cmp s) k))

-- the entry under the greatest second up to one is in force
pub greatest-IsInForce : {E : Type 0} (second_of : E → ℤ) (entries : List E) (index : BTreeMap ℤ E) (second : ℤ) (found : Option E)
    → IsIndex second_of entries index → IsGreatestUpTo index second found → IsInForce second_of entries second found
greatest-IsInForce second_of entries index second None is h = λ k d below.
    ⊎_elim
    (λ after. after)
    (λ begun.
    let there = is.each k d below in
    let none = h _ begun in
    absurd (cc))
    (int_cases second _)
greatest-IsInForce second_of entries index second (Some e) is h =
    let begins = is.second h.key e h.at in
    record {
      among = is.among h.key e h.at;
      not_after = omega (arith, ints, begins, h.begun);
      latest = λ k d below low.
          let there = is.each k d below in
          let greatest = h.greatest _ low (rw there refl) in
          omega (arith, ints, begins, greatest);
    }

-- the least second after one is the next
pub least-IsNext : {E : Type 0} (second_of : E → ℤ) (entries : List E) (index : BTreeMap ℤ E) (second : ℤ) (found : Option ℤ)
    → IsIndex second_of entries index → IsLeastAfter index second found → IsNext second_of entries second found
least-IsNext second_of entries index second None is h = λ k d below.
    ⊎_elim
    (λ after.
    let there = is.each k d below in
    let none = h _ after in
    absurd (cc))
    (λ begun. begun)
    (int_cases second _)
least-IsNext {E} second_of entries index second (Some next) is h =
    stands (get int_cmp index next) refl h.there
  where
    stands : (o : Option E) → get int_cmp index next ≡ o → IsSome o → IsNext second_of entries second (Some next)
    stands None at some = absurd (cc)
    stands (Some e) at some = record {
      entry = e;
      among = is.among next e at;
      begins = is.second next e at;
      after = h.after;
      first = λ k d below later. h.least _ later (rw (is.each k d below) refl);
    }

-- whether a second is free
pub free : {E : Type 0} (second_of : E → ℤ) (entries : List E) (index : BTreeMap ℤ E) (s : ℤ) → IsIndex second_of entries index
    → get int_cmp index s ≡ None → All (λ x. second_of x ≢ s) entries
free second_of entries index s is none = λ k d below same.
    let there = is.each k d below in
    let here = ap (get int_cmp index) same in
    absurd (cc)

pub taken : {E : Type 0} (second_of : E → ℤ) (entries : List E) (index : BTreeMap ℤ E) (s : ℤ) (e : E) → IsIndex second_of entries index
    → get int_cmp index s ≡ Some e → All (λ x. second_of x ≢ s) entries → ⊥
taken second_of entries index s e is at free =
    All-contains (λ x. second_of x ≢ s) entries e free (is.among s e at) (is.second s e at)

pub IsIndex-push : {E : Type 0} (second_of : E → ℤ) (entries : List E) (index next : BTreeMap ℤ E) (e : E) → IsIndex second_of entries index
    → All (λ x. second_of x ≢ second_of e) entries
    → Updates int_cmp index next (second_of e) (Some e) → IsIndex second_of (entries ++ e ∷ []) next
IsIndex-push {E} second_of entries index next e is free updates = record {
  each = All-push (λ x. get int_cmp next (second_of x) ≡ Some x) entries e
      (λ k d below.
      updates.2 _ (is_at-false _ _ (λ same. free k d below (sym same))) ∙ is.each k d below)
      updates.1;
  among = λ k x at.
      ⊎_elim
      (λ here.
      let same : Some e ≡ Some x = sym (updates.0 k ∙ cond-true (is_at (int_cmp (second_of e)) k) (Some e) (get int_cmp index k) here) ∙ at in
      subst (Contains (entries ++ e ∷ [])) (let eq : e ≡ x = cc in eq) (Contains-push entries e))
      (λ elsewhere. Contains-append_left entries (e ∷ []) x (is.among k x (sym (updates.2 k elsewhere) ∙ at)))
      (bool_cases (is_at (int_cmp (second_of e)) k));
  second = λ k x at.
      ⊎_elim
      (λ here.
      let same : Some e ≡ Some x = sym (updates.0 k ∙ cond-true (is_at (int_cmp (second_of e)) k) (Some e) (get int_cmp index k) here) ∙ at in
      let eq : e ≡ x = cc in
      ap second_of (sym eq) ∙ is_at-true (second_of e) k here)
      (λ elsewhere. is.second k x (sym (updates.2 k elsewhere) ∙ at))
      (bool_cases (is_at (int_cmp (second_of e)) k));
}

pub IsIndex-same : {E : Type 0} (second_of : E → ℤ) (entries : List E) (index next : BTreeMap ℤ E) → IsIndex second_of entries index
    → IsUnchanged index next → IsIndex second_of entries next
IsIndex-same second_of entries index next is same = record {
  each = λ k d below. ap (lookup (is_at (int_cmp (second_of _)))) same ∙ is.each k d below;
  among = λ k e at. is.among k e (sym (ap (lookup (is_at (int_cmp k))) same) ∙ at);
  second = λ k e at. is.second k e (sym (ap (lookup (is_at (int_cmp k))) same) ∙ at);
}

pub IsIndex-none : {E : Type 0} (second_of : E → ℤ) (index : BTreeMap ℤ E) → index.entries ≡ [] → IsIndex second_of [] index
IsIndex-none {E} second_of index none = record {
  each = λ k d below. absurd (omega arith);
  among = λ k e at. absurd (nothing k e at);
  second = λ k e at. absurd (nothing k e at);
}
  where
    nothing : (k : ℤ) (e : E) → get int_cmp index k ≡ Some e → ⊥
    nothing k e at =
        let here : get int_cmp index k ≡ None = ap (lookup (is_at (int_cmp k))) none in
        cc

-- a key that is not past a second, and one that is after it
pub at_most : (a b : ℤ) → is_gt (int_cmp a b) ≡ false → a ≤ℤ b
at_most a b h = from (int_cmp a b) (int_ranks a b) h
  where
    from : (r : Ordering) → MatchOrdering r (a <ℤ b) (a ≡ b) (b <ℤ a) → is_gt r ≡ false → a ≤ℤ b
    from Less less f = omega (arith, ints)
    from Equal same f = omega (arith, ints)
    from Greater more f = absurd (cc)

pub to_at_most : (a b : ℤ) → a ≤ℤ b → is_gt (int_cmp a b) ≡ false
to_at_most a b h = from (int_cmp a b) (int_ranks a b)
  where
    from : (r : Ordering) → MatchOrdering r (a <ℤ b) (a ≡ b) (b <ℤ a) → is_gt r ≡ false
    from Less less = refl
    from Equal same = refl
    from Greater more = absurd (omega (arith, ints))

pub not_below : (a b : ℤ) → is_lt (int_cmp a b) ≡ false → b ≤ℤ a
not_below a b h = from (int_cmp a b) (int_ranks a b) h
  where
    from : (r : Ordering) → MatchOrdering r (a <ℤ b) (a ≡ b) (b <ℤ a) → is_lt r ≡ false → b ≤ℤ a
    from Less less f = absurd (cc)
    from Equal same f = omega (arith, ints)
    from Greater more f = omega (arith, ints)

pub below : (a b : ℤ) → int_cmp a b ≡ Less → a <ℤ b
below a b h = from (int_cmp a b) (int_ranks a b) h
  where
    from : (r : Ordering) → MatchOrdering r (a <ℤ b) (a ≡ b) (b <ℤ a) → r ≡ Less → a <ℤ b
    from Less less f = less
    from Equal same f = absurd (cc)
    from Greater more f = absurd (cc)

pub to_below : (a b : ℤ) → a <ℤ b → int_cmp a b ≡ Less
to_below a b h = from (int_cmp a b) (int_ranks a b)
  where
    from : (r : Ordering) → MatchOrdering r (a <ℤ b) (a ≡ b) (b <ℤ a) → r ≡ Less
    from Less less = refl
    from Equal same = absurd (omega (arith, ints))
    from Greater more = absurd (omega (arith, ints))

pub DifferInSecond-push : {E : Type 0} (second_of : E → ℤ) (entries : List E) (e : E) → DifferInSecond second_of entries
    → All (λ x. second_of x ≢ second_of e) entries → DifferInSecond second_of (entries ++ e ∷ [])
DifferInSecond-push second_of entries e differ free = λ i j d below inside same.
    let count = length-append entries (e ∷ []) in
    let first : get_or (entries ++ e ∷ []) i d ≡ get_or entries i d = get_or-append entries (e ∷ []) d i (omega (arith, count, below, inside)) in
    ⊎_elim
    (λ within.
    let second : get_or (entries ++ e ∷ []) j d ≡ get_or entries j d = get_or-append entries (e ∷ []) d j within in
    differ i j d below within (ap second_of (sym first) ∙ same ∙ ap second_of second))
    (λ last.
    let second : get_or (entries ++ e ∷ []) j d ≡ e = get_or_push entries e d j (omega (arith, count, last, inside)) in
    free i d (omega (arith, count, below, inside)) (ap second_of (sym first) ∙ same ∙ ap second_of second))
    (cases_lt j (length entries))

-- an entry under the last of the seconds up to one, as a range of the index gives it
pub greatest-from : {E : Type 0} (index : BTreeMap ℤ E) (second key : ℤ) (e : E)
    → (is_gt (int_cmp key second) ≡ false) → get int_cmp index key ≡ Some e
    → ((q : ℤ) → is_gt (int_cmp q second) ≡ false → IsSome (get int_cmp index q) → is_lt (int_cmp key q) ≡ false)
    → IsUnderGreatest index second e
greatest-from index second key e begun at last = record {
  key = key;
  begun = at_most key second begun;
  at = at;
  greatest = λ q low there. not_below key q (last q (to_at_most q second low) there);
}

pub least-from : {E : Type 0} (index : BTreeMap ℤ E) (second key : ℤ) (e : E)
    → int_cmp second key ≡ Less → get int_cmp index key ≡ Some e
    → ((q : ℤ) → int_cmp second q ≡ Less → IsSome (get int_cmp index q) → is_gt (int_cmp key q) ≡ false)
    → IsLeastKey index second key
least-from index second key e after at first = record {
  after = below second key after;
  there = rw at refl;
  least = λ q later there. at_most key q (first q (to_below second q later) there);
}

pub on_ok : {T E : Type 0} (r : Result T E) (P : Type 0) → is_err r ≡ false → OnOk r P → P
on_ok (Ok x) P f h = h
on_ok (Err e) P f h = absurd (cc)

pub on_err : {T E : Type 0} (r : Result T E) (P : Type 0) → is_err r ≡ true → OnErr r P → P
on_err (Ok x) P f h = absurd (cc)
on_err (Err e) P f h = h

none_of : {A : Type 0} (o : Option A) → is_some o ≡ false → o ≡ None
none_of None h = refl
none_of (Some x) h = absurd (cc)

-- whether an entry's second is free, by a look-up of it
pub free_by : {E : Type 0} (second_of : E → ℤ) (entries : List E) (index : BTreeMap ℤ E) (s : ℤ) (e : E) (found : Bool) → IsIndex second_of entries index
    → found ≡ is_some (get int_cmp index s) → s ≡ second_of e → found ≡ false → All (λ x. second_of x ≢ second_of e) entries
free_by second_of entries index s e found is test at none =
    subst (λ (t : ℤ). All (λ x. second_of x ≢ t) entries) at (free second_of entries index s is (none_of (get int_cmp index s) (sym test ∙ none)))

pub taken_by : {E : Type 0} (second_of : E → ℤ) (entries : List E) (index : BTreeMap ℤ E) (s : ℤ) (e : E) (found : Bool) → IsIndex second_of entries index
    → found ≡ is_some (get int_cmp index s) → s ≡ second_of e → found ≡ true → All (λ x. second_of x ≢ second_of e) entries → ⊥
taken_by {E} second_of entries index s e found is test at some free =
    stands (get int_cmp index s) refl (sym test ∙ some)
  where
    stands : (o : Option E) → get int_cmp index s ≡ o → is_some o ≡ true → ⊥
    stands None here h = absurd (cc)
    stands (Some d) here h =
        taken second_of entries index s d is here (subst (λ (t : ℤ). All (λ x. second_of x ≢ t) entries) (sym at) free)

-- an entry was added to both
pub pushed_by : {E : Type 0} (second_of : E → ℤ) (entries more : List E) (index next : BTreeMap ℤ E) (s : ℤ) (e : E)
    → DifferInSecond second_of entries × IsIndex second_of entries index → All (λ x. second_of x ≢ second_of e) entries
    → s ≡ second_of e → more ≡ entries ++ e ∷ [] → Updates int_cmp index next s (Some e)
    → DifferInSecond second_of more × IsIndex second_of more next
pushed_by second_of entries more index next s e is free at pushed updates =
    rw pushed (
      DifferInSecond-push second_of entries e is.0 free,
      IsIndex-push second_of entries index next e is.1 free (subst (λ (t : ℤ). Updates int_cmp index next t (Some e)) at updates),
    )

-- nothing was added
pub unchanged_by : {E : Type 0} (second_of : E → ℤ) (entries less : List E) (index next : BTreeMap ℤ E)
    → DifferInSecond second_of entries × IsIndex second_of entries index → less ≡ entries → IsUnchanged index next
    → DifferInSecond second_of less × IsIndex second_of less next
unchanged_by second_of entries less index next is same kept = rw same (is.0, IsIndex-same second_of entries index next is.1 kept)

-- an entry was pushed and taken off again
pub popped : {E : Type 0} (entries more less : List E) (e : E) (n : ℕ) → more ≡ entries ++ e ∷ [] → n ≡ length more → less ≡ take (n - 1) more → less ≡ entries
popped entries more less e n pushed long rest =
    let count : n - 1 ≡ length entries = omega (arith, long, ap length pushed, length-append entries (e ∷ [])) in
    rest ∙ ap (λ k. take k more) count ∙ ap (take (length entries)) pushed
    ∙ take-append-le (length entries) entries (e ∷ []) (omega arith) ∙ take_all (length entries) entries (omega arith)
