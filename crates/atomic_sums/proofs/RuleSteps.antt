-- Each step of the table is an event of the machine, and keeps the rule.
use Rattle.std.proofs.Common.{◌≡◌, ◌≢◌, ◌<◌, ◌≤◌, ℕ, zero, suc, ◌+◌, ◌%◌, ◌^◌, min, List, [], ◌∷◌, ◌++◌, set, get_or, map, drop, replicate, false, refl, sym, ap, ◌∙◌, subst, arith, ⊎_elim, All, get_or-set_same, get_or-set_other}
use Rattle.std.specs.List.{sum_by}
use Rattle.std.proofs.lemmas.Bool.{false≢true, cases_lt}
use Rattle.std.proofs.Math.Nat.{mod-eq_of_lt}
use Rattle.std.proofs.lemmas.List.{length-set, length-replicate, map-set, map-append, drop-set-lt, drop-set-add, get_or-drop, set-get_or}
use Rattle.std.proofs.lemmas.List.Elements.{All-set, All-push, All-cons, All-nil}
use mathlib.Core.Option.{some, none, some-injective, some-ne-none}
use lib.ListN.{get_elem?}
use Rattle.atomic_table.specs.Table.{State, step, Allows, Splits, Joins, opening}
use Rattle.atomic_table.specs.Table.Act.{keeps}
use Rattle.atomic_table.proofs.Lists.{at_set, set_again}
use Rattle.piece_claim.specs.declared.sizes.Sizes.{Sizes}
use Rattle.piece_claim.specs.State.{Seat, BoardState, board, pieces, sums, new_seat, ended_seat, seat_at, has_number}
use Rattle.piece_claim.specs.Moves.{CanDraw, CanPost, CanSplit, CanJoin, drawn, posted, added, word_of, one_less, joined, after_draw, after_post, after_split, after_join}
use Rattle.piece_claim.specs.Invariant.{IsSizes, IsSound}
use Rattle.piece_claim.specs.Shown.{IsBoard}
use Rattle.piece_claim.proofs.Draws.{keeps_draw}
use Rattle.piece_claim.proofs.Posts.{keeps_post}
use Rattle.piece_claim.proofs.Splits.{keeps_split}
use Rattle.piece_claim.proofs.Joins.{keeps_join}
use Rattle.piece_claim.proofs.Opens.{opens}
use Rattle.piece_claim.proofs.EventLaws.{next_fits, word_fits}
use Rattle.piece_claim.proofs.Weights.{part, part-le-weight, live_inside}
use Rattle.atomic_sums.specs.Views.{SeatView, Sat, seen_by, last_after, first_view, left_view, right_view, joined_view, spent_view, times_in, Draws, Posts, Learns}
use Rattle.atomic_sums.specs.Rule.{Keeps, state_in}

abbrev pub Table1 : Type 0
Table1 = State (Unit {0}) SeatView

abbrev pub seat_state : SeatView → Seat
seat_state v = v.seat

-- the seat of a view
pub at_seat : (views : List SeatView) (id : ℕ) (v : SeatView) → get_elem? views id ≡ some v → get_or (map seat_state views) id ended_seat ≡ v.seat
at_seat [] id v at = absurd (some-ne-none v (sym at))
at_seat (x ∷ xs) zero v at = ap seat_state (some-injective x v at)
at_seat (x ∷ xs) (suc id) v at = at_seat xs id v at

at_view : (P : SeatView → Type 0) (views : List SeatView) (id : ℕ) (v : SeatView) → get_elem? views id ≡ some v → All P views → P v
at_view P views id v at all = go views id at (λ k d lt. all k d lt)
  where
    go : (xs : List SeatView) (i : ℕ) → get_elem? xs i ≡ some v → All P xs → P v
    go [] i e h = absurd (some-ne-none v (sym e))
    go (x ∷ xs) zero e h = subst P (some-injective x v e) (h 0 x (omega arith))
    go (x ∷ xs) (suc i) e h = go xs i e (λ k d lt. h (suc k) d (omega arith))

-- three equal parts
boards : (k : Sizes) (n n' : ℕ) (ws ws' : List ℕ) (vs vs' : List Seat) → n ≡ n' → ws ≡ ws' → vs ≡ vs' → board k n ws vs ≡ board k n' ws' vs'
boards k n n' ws ws' vs vs' en ew ev = ap (λ m. board k m ws vs) en ∙ ap (λ l. board k n' l vs) ew ∙ ap (λ l. board k n' ws' l) ev

abbrev pub state_of : Sizes → Table1 → BoardState
state_of k s = state_in k s.words s.views

is_board : (k : Sizes) (s : Table1) → Keeps k s → IsBoard (state_of k s)
is_board k s keep = record { sizes = keep.sizes; sound = keep.sound }

pub starts : (k : Sizes) (words : List ℕ) → IsSizes k → words ≡ replicate {A = ℕ} (1 + sums k) 0 → Keeps k (opening words [] (first_view k))
starts k words sizes is = subst (λ (l : List ℕ). Keeps k (opening l [] (first_view k))) (sym is) record {
  sizes = sizes;
  words = length-replicate (1 + sums k) 0;
  known = All-cons (λ v. v.seat.ended ≡ false → v.sizes ≡ k) (first_view k) [] (λ _. refl) (All-nil (λ v. v.seat.ended ≡ false → v.sizes ≡ k));
  sound = subst IsSound (sym (zeros (sums k))) (opens k sizes);
}
  where
    zeros : (n : ℕ) → board k (get_or (replicate {A = ℕ} (1 + n) 0) 0 0) (drop 1 (replicate {A = ℕ} (1 + n) 0)) (new_seat k.shares ∷ []) ≡ board k 0 (replicate n 0) (new_seat k.shares ∷ [])
    zeros n = let e : 1 + n ≡ suc n = omega arith in ap (λ m. board k (get_or (replicate {A = ℕ} m 0) 0 0) (drop 1 (replicate {A = ℕ} m 0)) (new_seat k.shares ∷ [])) e

-- where one view is replaced, one seat is
views_set : (views : List SeatView) (id : ℕ) (w : SeatView) → map seat_state (set views id w) ≡ set (map seat_state views) id w.seat
views_set views id w = map-set seat_state views id w

known_set : (k : Sizes) (views : List SeatView) (id : ℕ) (w : SeatView) → w.sizes ≡ k → All (λ v. v.seat.ended ≡ false → v.sizes ≡ k) views → All (λ v. v.seat.ended ≡ false → v.sizes ≡ k) (set views id w)
known_set k views id w is all = All-set (λ v. v.seat.ended ≡ false → v.sizes ≡ k) views id w (λ _. is) all

-- a number that is not drawn yet is in no seat
not_yet : (b : BoardState) (i : ℕ) (v : Seat) → IsSound b → seat_at b i ≡ v → v.ended ≡ false → times_in b.next v.finished ≡ 0
not_yet b i v sound is live =
    let inside = live_inside b.seats i (ap (λ (u : Seat). u.ended) is ∙ live) in
    let none = sound.drawn.no_other b.next (omega arith) in
    let mine = part-le-weight (has_number b.next) b.seats i inside in
    let whole = part (has_number b.next) (seat_at b i) in
    omega (arith, none, mine, whole, ap (λ (u : Seat). sum_by (has_number b.next) u.finished) is)

pub draws : (k : Sizes) (slots id : ℕ) (me : Sat) → CanDraw me.0.seat → Allows (Keeps k) slots id me 0 (λ n. (n + 1) % 2 ^ 64) (Draws (step slots 0 1 0 none) me)
draws k slots id me can s keep homes at fits =
    let b = state_of k s in
    let v = me.0 in
    let n = b.next in
    let is : seat_at b id ≡ v.seat = at_seat s.views id v at in
    let known : v.sizes ≡ k = at_view (λ u. u.seat.ended ≡ false → u.sizes ≡ k) s.views id v at keep.known can.live in
    let can_b : CanDraw (seat_at b id) = subst CanDraw (sym is) can in
    let w = seen_by v.sizes (drawn (pieces v.sizes) v.seat n) (last_after (pieces v.sizes) v.last n) in
    let small = next_fits b id (is_board k s keep) can_b in
    let no_wrap : (n + 1) % 2 ^ 64 ≡ n + 1 = mod-eq_of_lt small in
    let next : get_or (set s.words 0 ((n + 1) % 2 ^ 64)) 0 0 ≡ n + 1 = get_or-set_same s.words 0 ((n + 1) % 2 ^ 64) 0 (omega (arith, keep.words)) ∙ no_wrap in
    let same : state_in k (set s.words 0 ((n + 1) % 2 ^ 64)) (set s.views id w) ≡ after_draw b id =
    boards k (get_or (set s.words 0 ((n + 1) % 2 ^ 64)) 0 0) (n + 1) (drop 1 (set s.words 0 ((n + 1) % 2 ^ 64))) b.words (map seat_state (set s.views id w)) (set b.seats id (drawn (pieces k) (seat_at b id) n))
    next
    (drop-set-lt 1 s.words 0 ((n + 1) % 2 ^ 64) (omega arith))
    (views_set s.views id w ∙ ap (λ (j : Sizes). set b.seats id (drawn (pieces j) v.seat n)) known ∙ ap (λ u. set b.seats id (drawn (pieces k) u n)) (sym is)) in (
      w,
      keeps,
      tt,
      record {
        sizes = keep.sizes;
        words = length-set s.words 0 ((n + 1) % 2 ^ 64) ∙ keep.words;
        known = known_set k s.views id w known keep.known;
        sound = subst IsSound (sym same) (keeps_draw b id keep.sizes keep.sound can_b);
      },
      (refl, λ _. not_yet b id v.seat keep.sound is can.live),
    )

pub posts : (k : Sizes) (slots id x a : ℕ) (me : Sat) → CanPost k me.0.seat a → x ≡ word_of k me.0.seat.hand → Allows (Keeps k) slots id me (1 + x) (λ m. (m + a) % 2 ^ 64) (Posts (step slots (1 + x) a 0 none) me)
posts k slots id x a me can place s keep homes at fits =
    let b = state_of k s in
    let v = me.0 in
    let is : seat_at b id ≡ v.seat = at_seat s.views id v at in
    let known : v.sizes ≡ k = at_view (λ u. u.seat.ended ≡ false → u.sizes ≡ k) s.views id v at keep.known can.live in
    let can_b : CanPost k (seat_at b id) a = subst (λ u. CanPost k u a) (sym is) can in
    let at_word : x ≡ word_of k (seat_at b id).hand = place ∙ ap (λ (u : Seat). word_of k u.hand) (sym is) in
    let w = seen_by v.sizes (posted v.sizes.width v.seat a) v.last in
    let m = get_or s.words (1 + x) 0 in
    let old : get_or b.words x 0 ≡ m = get_or-drop 1 s.words x 0 in
    let small : m + a < 2 ^ 64 = omega (arith, word_fits b id a (is_board k s keep) can_b, old, ap (λ y. get_or b.words y 0) at_word) in
    let no_wrap : (m + a) % 2 ^ 64 ≡ m + a = mod-eq_of_lt small in
    let differ : 0 ≢ 1 + x = λ e. omega arith in
    let new_words : drop 1 (set s.words (1 + x) ((m + a) % 2 ^ 64)) ≡ added b.words (word_of k (seat_at b id).hand) a =
    drop-set-add 1 s.words x ((m + a) % 2 ^ 64)
    ∙ ap (λ y. set b.words x y) (no_wrap ∙ ap (λ y. y + a) (sym old))
    ∙ ap (λ y. added b.words y a) at_word in
    let same : state_in k (set s.words (1 + x) ((m + a) % 2 ^ 64)) (set s.views id w) ≡ after_post b id a =
    boards k (get_or (set s.words (1 + x) ((m + a) % 2 ^ 64)) 0 0) b.next (drop 1 (set s.words (1 + x) ((m + a) % 2 ^ 64))) (added b.words (word_of k (seat_at b id).hand) a) (map seat_state (set s.views id w)) (set b.seats id (posted k.width (seat_at b id) a))
    (get_or-set_other s.words (1 + x) 0 ((m + a) % 2 ^ 64) 0 differ)
    new_words
    (views_set s.views id w ∙ ap (λ (j : Sizes). set b.seats id (posted j.width v.seat a)) known ∙ ap (λ u. set b.seats id (posted k.width u a)) (sym is)) in (
      w,
      keeps,
      tt,
      record {
        sizes = keep.sizes;
        words = length-set s.words (1 + x) ((m + a) % 2 ^ 64) ∙ keep.words;
        known = known_set k s.views id w known keep.known;
        sound = subst IsSound (sym same) (keeps_post b id a keep.sizes keep.sound can_b);
      },
      refl,
    )

pub splits : (k : Sizes) (id : ℕ) (v : SeatView) → CanSplit v.seat → Splits (Keeps k) id v (left_view v) (right_view v)
splits k id v can s keep at =
    let b = state_of k s in
    let is : seat_at b id ≡ v.seat = at_seat s.views id v at in
    let known : v.sizes ≡ k = at_view (λ u. u.seat.ended ≡ false → u.sizes ≡ k) s.views id v at keep.known can.live in
    let views = set s.views id (left_view v) ++ right_view v ∷ [] in
    let same : state_in k s.words views ≡ after_split b id =
    ap (λ l. board k b.next b.words l)
    (map-append seat_state (set s.views id (left_view v)) (right_view v ∷ [])
    ∙ ap (λ (l : List Seat). l ++ new_seat 1 ∷ []) (views_set s.views id (left_view v) ∙ ap (λ u. set b.seats id (one_less u)) (sym is))) in
    record {
      sizes = keep.sizes;
      words = keep.words;
      known = All-push (λ u. u.seat.ended ≡ false → u.sizes ≡ k) (set s.views id (left_view v)) (right_view v) (known_set k s.views id (left_view v) known keep.known) (λ _. known);
      sound = subst IsSound (sym same) (keeps_split b id keep.sound (subst CanSplit (sym is) can));
    }

pub joins : (k : Sizes) (id other : ℕ) (v w : SeatView) → CanJoin v.seat w.seat → Joins (Keeps k) id v other w (joined_view v w) spent_view
joins k id other v w can s keep at differ at' =
    let b = state_of k s in
    let both = joined_view v w in
    let there : get_elem? s.views other ≡ some w = ⊎_elim
    (λ (t : (other ≡ id) × (both ≡ w)). absurd (differ t.0))
    (λ (t : (other ≢ id) × (get_elem? s.views other ≡ some w)). t.1)
    (at_set s.views id other both w at') in
    let is : seat_at b id ≡ v.seat = at_seat s.views id v at in
    let is' : seat_at b other ≡ w.seat = at_seat s.views other w there in
    let known : v.sizes ≡ k = at_view (λ u. u.seat.ended ≡ false → u.sizes ≡ k) s.views id v at keep.known can.live in
    let can_b : CanJoin (seat_at b id) (seat_at b other) = subst (λ u. CanJoin u (seat_at b other)) (sym is) (subst (λ u. CanJoin v.seat u) (sym is') can) in
    let same : state_in k s.words (set (set s.views id both) other spent_view) ≡ after_join b id other =
    ap (λ l. board k b.next b.words l)
    (views_set (set s.views id both) other spent_view
    ∙ ap (λ (l : List Seat). set l other ended_seat) (views_set s.views id both ∙ ap (λ u. set b.seats id (joined u w.seat)) (sym is) ∙ ap (λ u. set b.seats id (joined (seat_at b id) u)) (sym is'))) in
    record {
      sizes = keep.sizes;
      words = keep.words;
      known = All-set (λ u. u.seat.ended ≡ false → u.sizes ≡ k) (set s.views id both) other spent_view (λ e. absurd (false≢true (sym e))) (known_set k s.views id both known keep.known);
      sound = subst IsSound (sym same) (keeps_join b id other keep.sound (λ e. differ (sym e)) can_b);
    }

-- no piece stands twice in a seat
once_in_seat : (b : BoardState) (i : ℕ) (v : Seat) → IsSound b → seat_at b i ≡ v → v.ended ≡ false → (x : ℕ) → times_in x v.finished ≤ 1
once_in_seat b i v sound is live x =
    let inside = live_inside b.seats i (ap (λ (u : Seat). u.ended) is ∙ live) in
    let mine = part-le-weight (has_number x) b.seats i inside in
    let whole = part (has_number x) (seat_at b i) in
    let here = ap (λ (u : Seat). sum_by (has_number x) u.finished) is in
    ⊎_elim
    (λ (lt : x < min b.next (pieces b.sizes)). omega (arith, sound.drawn.once x lt, mine, whole, here))
    (λ (le : min b.next (pieces b.sizes) ≤ x). omega (arith, sound.drawn.no_other x le, mine, whole, here))
    (cases_lt x (min b.next (pieces b.sizes)))

pub learns : (k : Sizes) (slots id : ℕ) (me : Sat) → me.0.seat.ended ≡ false → Allows (Keeps k) slots id me 0 (λ n. n) (Learns (step slots 0 0 0 none) me)
learns k slots id me live s keep homes at fits =
    let v = me.0 in
    let b = state_of k s in
    let same_words : set s.words 0 (get_or s.words 0 0) ≡ s.words = set-get_or s.words 0 0 in
    let same_views : set s.views id v ≡ s.views = set_again s.views id v at in (
      v,
      keeps,
      tt,
      subst (λ (l : List SeatView). Keeps k record { words = set s.words 0 (get_or s.words 0 0); homes = s.homes; views = l }) (sym same_views)
          (subst (λ (l : List ℕ). Keeps k record { words = l; homes = s.homes; views = s.views }) (sym same_words) keep),
      (refl, once_in_seat b id v.seat keep.sound (at_seat s.views id v at) live),
    )
