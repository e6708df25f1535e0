-- The entry in force as a function.
use Rattle.std.proofs.Common.{◌≡◌, List, [], ◌∷◌, get_or, ◌⊎◌, ⊎_elim, Option, Some, None, MatchOption, ℤ, ◌<ℤ◌, ◌≤ℤ◌, refl, sym, ap, ◌∙◌, arith}
use Rattle.std.specs.List.{All, Contains}
use Rattle.std.proofs.lemmas.Int.{ints}
use Rattle.std.proofs.lemmas.Bool.{cases_order}
use Rattle.std.proofs.lemmas.List.{get_or_default}
use Rattle.std.proofs.lemmas.List.Elements.{All-nil, All-cons, All-weaker, All-contains, Contains-push, Contains-append_left, Contains-append_right}
use Rattle.entry_list.specs.Latest.{DifferInSecond, IsLatest, IsInForce, IsLater, later_of, in_force}

later_of-IsLater : {E : Type 0} (second_of : E → ℤ) (x : E) (found : Option E) (second : ℤ) → IsLater second_of found x second (later_of second_of x found second)
later_of-IsLater second_of x None second = grind (arith, ints)
later_of-IsLater second_of x (Some e) second = grind (arith, ints)

-- the entry in front is in force
front-IsLatest : {E : Type 0} (second_of : E → ℤ) (x : E) (entries : List E) (found : Option E) (second : ℤ)
    → IsInForce second_of entries second found
    → second_of x ≤ℤ second
    → MatchOption found (Unit {0}) (λ e. second_of e <ℤ second_of x)
    → IsLatest second_of (x ∷ entries) second x
front-IsLatest {E} second_of x entries None second h begun later = record {
  among = Contains-append_left (x ∷ []) entries x (Contains-push [] x);
  not_after = begun;
  latest = All-cons (λ y. second_of y ≤ℤ second → second_of y ≤ℤ second_of x) x entries (λ _. omega (arith, ints))
      (All-weaker (λ y. second <ℤ second_of y) (λ y. second_of y ≤ℤ second → second_of y ≤ℤ second_of x) (λ y after not_after. absurd (omega (arith, ints))) entries h);
}
front-IsLatest {E} second_of x entries (Some e) second h begun later = record {
  among = Contains-append_left (x ∷ []) entries x (Contains-push [] x);
  not_after = begun;
  latest = All-cons (λ y. second_of y ≤ℤ second → second_of y ≤ℤ second_of x) x entries (λ _. omega (arith, ints))
      (All-weaker (λ y. second_of y ≤ℤ second → second_of y ≤ℤ second_of e) (λ y. second_of y ≤ℤ second → second_of y ≤ℤ second_of x) (λ y f not_after. let g = f not_after in omega (arith, ints)) entries h.latest);
}

-- it is not
behind-IsInForce : {E : Type 0} (second_of : E → ℤ) (x : E) (entries : List E) (found : Option E) (second : ℤ)
    → IsInForce second_of entries second found
    → (second <ℤ second_of x) ⊎ MatchOption found ⊥ (λ e. second_of x ≤ℤ second_of e)
    → IsInForce second_of (x ∷ entries) second found
behind-IsInForce second_of x entries None second h late =
    All-cons (λ y. second <ℤ second_of y) x entries (⊎_elim (λ after. after) (λ never. absurd never) late) h
behind-IsInForce second_of x entries (Some e) second h late = record {
  among = Contains-append_right (x ∷ []) entries e h.among;
  not_after = h.not_after;
  latest = All-cons (λ y. second_of y ≤ℤ second → second_of y ≤ℤ second_of e) x entries
      (λ low. ⊎_elim (λ after. absurd (omega (arith, ints))) (λ before. before) late) h.latest;
}

-- the function gives an entry in force
pub in_force-IsInForce : {E : Type 0} (second_of : E → ℤ) (entries : List E) (second : ℤ) → IsInForce second_of entries second (in_force second_of entries second)
unfolding in_force
in_force-IsInForce second_of [] second = All-nil (λ x. second <ℤ second_of x)
in_force-IsInForce second_of (x ∷ entries) second =
    let found = in_force second_of entries second in
    let h = in_force-IsInForce second_of entries second in
    ⊎_elim
    (λ taken. rw taken.2 (front-IsLatest second_of x entries found second h taken.0 taken.1))
    (λ kept. rw kept.1 (behind-IsInForce second_of x entries found second h kept.0))
    (later_of-IsLater second_of x found second)

-- two entries of one list that begin at one second are one
same_entry : {E : Type 0} (second_of : E → ℤ) (entries : List E) (a b : E) → DifferInSecond second_of entries → Contains entries a → Contains entries b
    → second_of a ≡ second_of b
    → a ≡ b
same_entry second_of entries a b differ (i, in_i, is_a) (j, in_j, is_b) one =
    let at_j : get_or entries j a ≡ b = get_or_default entries j a b in_j ∙ is_b in
    ⊎_elim
    (λ same. sym is_a ∙ rw same at_j)
    (λ apart. ⊎_elim
    (λ before. absurd (differ i j a before in_j (rw (is_a, at_j) one)))
    (λ after. absurd (differ j i a after in_i (rw (is_a, at_j) (sym one))))
    apart)
    (cases_order i j)

-- in a list in which no two entries begin at one second one entry at most is in force
pub IsInForce-unique : {E : Type 0} (second_of : E → ℤ) (entries : List E) (second : ℤ) (a b : Option E) → DifferInSecond second_of entries
    → IsInForce second_of entries second a
    → IsInForce second_of entries second b
    → a ≡ b
IsInForce-unique second_of entries second None None differ h k = refl
IsInForce-unique second_of entries second None (Some b) differ h k =
    let after = All-contains (λ x. second <ℤ second_of x) entries b h k.among in
    absurd (omega (arith, ints, k.not_after))
IsInForce-unique second_of entries second (Some a) None differ h k =
    let after = All-contains (λ x. second <ℤ second_of x) entries a k h.among in
    absurd (omega (arith, ints, h.not_after))
IsInForce-unique second_of entries second (Some a) (Some b) differ h k =
    let one : second_of a ≡ second_of b = omega (
      arith,
      ints,
      All-contains (λ x. second_of x ≤ℤ second → second_of x ≤ℤ second_of a) entries b h.latest k.among k.not_after,
      All-contains (λ x. second_of x ≤ℤ second → second_of x ≤ℤ second_of b) entries a k.latest h.among h.not_after,
    ) in
    ap Some (same_entry second_of entries a b differ h.among k.among one)

-- where no entry is in force none was before
pub in_force-none_before : {E : Type 0} (second_of : E → ℤ) (entries : List E) (second later : ℤ) → second ≤ℤ later → in_force second_of entries later ≡ None
    → in_force second_of entries second ≡ None
in_force-none_before {E} second_of entries second later order none_later =
    IsNone-before (in_force second_of entries second) (in_force-IsInForce second_of entries second)
  where
    all_after : All (λ x. later <ℤ second_of x) entries
    all_after = rw none_later at (in_force-IsInForce second_of entries later)

    IsNone-before : (found : Option E) → IsInForce second_of entries second found → found ≡ None
    IsNone-before None h = refl
    IsNone-before (Some e) h =
        let after = All-contains (λ x. later <ℤ second_of x) entries e all_after h.among in
        absurd (omega (arith, ints, h.not_after))

step_before : {E : Type 0} (second_of : E → ℤ) (x e : E) (before after : Option E) (second later : ℤ) → second ≤ℤ later → second_of e ≤ℤ second
    → (after ≡ None → before ≡ None)
    → ((d : E) → second_of d ≤ℤ second → after ≡ Some d → before ≡ Some d)
    → later_of second_of x after later ≡ Some e
    → later_of second_of x before second ≡ Some e
step_before second_of x e before None second later order begun none_before same h =
    rw (none_before refl) (grind (arith, ints))
step_before second_of x e before (Some d) second later order begun none_before same h =
    ⊎_elim
    (λ taken. grind (arith, ints))
    (λ kept. grind (arith, ints))
    (later_of-IsLater second_of x (Some d) later)

-- an entry that is in force later, and has begun, is in force
pub in_force-before : {E : Type 0} (second_of : E → ℤ) (entries : List E) (second later : ℤ) (e : E) → second ≤ℤ later → second_of e ≤ℤ second
    → in_force second_of entries later ≡ Some e
    → in_force second_of entries second ≡ Some e
unfolding in_force
in_force-before second_of [] second later e order begun h = h
in_force-before second_of (x ∷ entries) second later e order begun h =
    step_before second_of x e (in_force second_of entries second) (in_force second_of entries later) second later order begun
    (in_force-none_before second_of entries second later order)
    (λ d low is. in_force-before second_of entries second later d order low is)
    h
