-- A post keeps the invariant.
use Rattle.std.proofs.Common.{◌≡◌, ◌≢◌, ◌<◌, ◌≤◌, ℕ, ◌+◌, ◌*◌, ◌/◌, ◌%◌, [], ◌∷◌, ◌++◌, length, get_or, set, slice_index, slice_set, Bool, true, false, Option, None, Some, IfSome, if◌then◌else◌, eqb, eq-eqb, refl, sym, ap, ◌∙◌, subst, arith, ⊎_elim, get_or-set_same, get_or-set_other}
use Rattle.std.specs.List.{sum_by}
use Rattle.std.proofs.lemmas.Bool.{cases_lt, cases_eq, false≢true}
use Rattle.std.proofs.lemmas.Bool.Decides.{nat_tests}
use Rattle.std.proofs.lemmas.Nat.{div-mul-add, div-add-mod', mul-add-lt}
use Rattle.std.proofs.Math.Nat.{div-lt_iff_lt-mul}
use Rattle.std.proofs.lemmas.List.{length-set, length_push, get_or_append_left, get_or_push, get_or_past}
use Rattle.std.proofs.lemmas.List.Sums.{sum_by-set, sum_by_push}
use Rattle.std.proofs.lemmas.List.Elements.{All-set, All-push}
use Rattle.piece_claim.specs.declared.sizes.Sizes.{Sizes}
use Rattle.piece_claim.specs.State.{Piece, Seat, BoardState, seat, board, pieces, sums, ended_seat, seat_at, held_by, weight, times, has_number, amount_at, live_shares, done_shares}
use Rattle.piece_claim.specs.Moves.{CanPost, LacksAmounts, with_piece, grown, posted_for, word_of, added, after_post}
use Rattle.piece_claim.specs.Invariant.{IsSizes, IsSound, AmountsFit, AmountsWithin}
use Rattle.piece_claim.proofs.Weights.{in_hand, in_hand-some, part, part_free, weight-set, live_inside, hand_inside}

-- what one amount more adds to the sums
module _ (k : Sizes) (sizes : IsSizes k) (p : Piece) (a : ℕ) (short : length p.amounts < k.width) where
  abbrev place : ℕ
  place = p.number / k.per_group * k.width + length p.amounts

  row : place / k.width ≡ p.number / k.per_group
  row = div-mul-add (p.number / k.per_group) k.width (length p.amounts) short

  column : place % k.width ≡ length p.amounts
  column = omega (arith, div-add-mod' place k.width, ap (λ q. q * k.width) row)

  in_row : eqb (p.number / k.per_group) (place / k.width) ≡ true
  in_row = eq-eqb (p.number / k.per_group) (place / k.width) (sym row)

  -- at the sum of the post
  pub amount_here : amount_at k place (grown p a) ≡ amount_at k place p + a
  amount_here =
      let new : amount_at k place (grown p a) ≡ a =
      ap (λ t. if t then get_or (p.amounts ++ a ∷ []) (place % k.width) 0 else 0) in_row
      ∙ ap (λ j. get_or (p.amounts ++ a ∷ []) j 0) column
      ∙ get_or_push p.amounts a 0 (length p.amounts) refl in
      let old : amount_at k place p ≡ 0 =
      ap (λ t. if t then get_or p.amounts (place % k.width) 0 else 0) in_row
      ∙ ap (λ j. get_or p.amounts j 0) column
      ∙ get_or_past p.amounts (length p.amounts) 0 (omega arith) in
      omega (arith, new, old)

  -- at another
  pub amount_there : (y : ℕ) → y ≢ place → amount_at k y (grown p a) ≡ amount_at k y p
  amount_there y other = go (eqb (p.number / k.per_group) (y / k.width)) refl
    where
      same_place : (j : ℕ) → j ≢ length p.amounts → get_or (p.amounts ++ a ∷ []) j 0 ≡ get_or p.amounts j 0
      same_place j differ = ⊎_elim
          (λ (lt : j < length p.amounts). get_or_append_left p.amounts (a ∷ []) 0 j lt)
          (λ (le : length p.amounts ≤ j).
          get_or_past (p.amounts ++ a ∷ []) j 0 (omega (arith, length_push p.amounts a)) ∙ sym (get_or_past p.amounts j 0 le))
          (cases_lt j (length p.amounts))

      go : (t : Bool) → eqb (p.number / k.per_group) (y / k.width) ≡ t → (if eqb (p.number / k.per_group) (y / k.width) then get_or (p.amounts ++ a ∷ []) (y % k.width) 0 else 0) ≡ (if eqb (p.number / k.per_group) (y / k.width) then get_or p.amounts (y % k.width) 0 else 0)
      go false e = ap (λ t. if t then get_or (p.amounts ++ a ∷ []) (y % k.width) 0 else 0) e ∙ sym (ap (λ t. if t then get_or p.amounts (y % k.width) 0 else 0) e)
      go true e =
          let same_row : p.number / k.per_group ≡ y / k.width = grind (arith, nat_tests) in
          ap (λ q. if eqb (p.number / k.per_group) (y / k.width) then q else 0)
          (same_place (y % k.width) (λ e'. other (omega (arith, div-add-mod' y k.width, ap (λ q. q * k.width) same_row, e'))))

  pub place_inside : p.number < pieces k → place < sums k
  place_inside lt = omega (arith, mul-add-lt (p.number / k.per_group) k.width (length p.amounts) k.groups ((div-lt_iff_lt-mul sizes.per_group).1 lt) short)

-- The seat after a post: its standing is the same, it has the grown piece, and that fits.
record IsPosted (k : Sizes) (v w : Seat) (q : Piece) : Type 0 where
  shares : w.shares ≡ v.shares
  ended : w.ended ≡ v.ended
  done : w.done ≡ v.done
  weighs : (f : Piece → ℕ) → sum_by f (held_by w) ≡ sum_by f v.finished + f q
  fit : AmountsFit k w

with_piece_is : (k : Sizes) (v : Seat) (q : Piece) → AmountsFit k v → length q.amounts ≤ k.width → AmountsWithin k.bound q → IsPosted k v (with_piece k.width v q) q
with_piece_is k v q fit long within = go (eqb (length q.amounts) k.width) refl
  where
    go : (t : Bool) → eqb (length q.amounts) k.width ≡ t → IsPosted k v (if t then seat v.shares (v.finished ++ q ∷ []) None v.done v.ended else seat v.shares v.finished (Some q) v.done v.ended) q
    go true e = record {
      shares = refl;
      ended = refl;
      done = refl;
      weighs = λ f. omega (arith, part_free f (seat v.shares (v.finished ++ q ∷ []) None v.done v.ended) refl, sum_by_push f v.finished q);
      fit = record {
        finished = All-push (λ p. (length p.amounts ≡ k.width) × AmountsWithin k.bound p) v.finished q fit.finished (let full : length q.amounts ≡ k.width = grind (arith, nat_tests) in full, within);
        hand = tt;
      };
    }
    go false e = record {
      shares = refl;
      ended = refl;
      done = refl;
      weighs = λ f. omega (arith, part f (seat v.shares v.finished (Some q) v.done v.ended), in_hand-some f q);
      fit = record {
        finished = fit.finished;
        hand = (let differ : length q.amounts ≢ k.width = λ same. false≢true (sym e ∙ eq-eqb (length q.amounts) k.width same) in omega (arith, differ), within);
      };
    }

module _ (b : BoardState) (i a : ℕ) (p : Piece) (sizes : IsSizes b.sizes) (sound : IsSound b) (live : (seat_at b i).ended ≡ false) (has : (seat_at b i).hand ≡ Some p) (short : length p.amounts < b.sizes.width) (within : a ≤ b.sizes.bound) where
  keeps_grown : IsSound (board b.sizes b.next (added b.words (word_of b.sizes (Some p)) a) (slice_set b.seats i (posted_for b.sizes.width (seat_at b i) (Some p) a)))
  keeps_grown =
      let k = b.sizes in
      let v = seat_at b i in
      let q = grown p a in
      let w = with_piece k.width v q in
      let x = word_of k (Some p) in
      let inside = live_inside b.seats i live in
      let fit = sound.amounts i ended_seat inside in
      let hand : IfSome (Some p) (λ (r : Piece). (length r.amounts < k.width) × AmountsWithin k.bound r) = subst (λ o. IfSome o (λ (r : Piece). (length r.amounts < k.width) × AmountsWithin k.bound r)) has fit.hand in
      let is = with_piece_is k v q fit (omega (arith, length_push p.amounts a)) (All-push (λ y. y ≤ k.bound) p.amounts a hand.1 within) in
      let new : (f : Piece → ℕ) → weight f (set b.seats i w) + f p ≡ weight f b.seats + f q =
      λ f. omega (arith, weight-set f b.seats i w inside, part f v, ap (in_hand f) has, in_hand-some f p, is.weighs f) in
      let number : (n : ℕ) → times n (set b.seats i w) ≡ times n b.seats = λ n. omega (arith, new (has_number n)) in
      let place = place_inside k sizes p a short (hand_inside b i p sound.drawn inside has) in
      let busy : v.done ≡ true → ⊥ = λ e. none_is p (sym has ∙ (sound.done i ended_seat inside e).0) in
      record {
        drawn = record { once = λ n lt. number n ∙ sound.drawn.once n lt; no_other = λ n le. number n ∙ sound.drawn.no_other n le };
        words = record {
          count = length-set b.words x (slice_index b.words x + a) ∙ sound.words.count;
          each = λ y lt. ⊎_elim
              (λ (e : y ≡ x).
              let here : slice_index b.words x + a ≡ weight (amount_at k x) (set b.seats i w) = omega (arith, sound.words.each x place, new (amount_at k x), amount_here k sizes p a short) in
              subst (λ z. get_or (set b.words x (slice_index b.words x + a)) z 0 ≡ weight (amount_at k z) (set b.seats i w)) (sym e)
              (get_or-set_same b.words x (slice_index b.words x + a) 0 (omega (arith, sound.words.count, place)) ∙ here))
              (λ (other : y ≢ x). omega (
                arith,
                get_or-set_other b.words x y (slice_index b.words x + a) 0 other,
                sound.words.each y lt,
                new (amount_at k y),
                amount_there k sizes p a short y other,
              ))
              (cases_eq y x);
        };
        shares = record {
          total =
              let old : live_shares v ≡ v.shares = ap (λ e. if e then 0 else v.shares) live in
              let now : live_shares w ≡ w.shares = ap (λ e. if e then 0 else w.shares) (is.ended ∙ live) in
              omega (arith, sum_by-set live_shares b.seats i w ended_seat inside, sound.shares.total, old, now, is.shares);
          some = All-set (λ u. u.ended ≡ false → 0 < u.shares) b.seats i w (λ _. omega (arith, is.shares, sound.shares.some i ended_seat inside live)) sound.shares.some;
          none = All-set (λ u. u.ended ≡ true → (u.shares ≡ 0) × (u.finished ≡ []) × (u.hand ≡ None)) b.seats i w (λ e. absurd (false≢true (sym (is.ended ∙ live) ∙ e))) sound.shares.none;
        };
        done = All-set (λ u. u.done ≡ true → (u.hand ≡ None) × (pieces k ≤ b.next)) b.seats i w (λ e. absurd (busy (sym is.done ∙ e))) sound.done;
        next =
            let same : done_shares w ≡ done_shares v = ap (λ d. if d then w.shares else 0) is.done ∙ ap (λ s. if v.done then s else 0) is.shares in
            omega (arith, sound.next, sum_by-set done_shares b.seats i w ended_seat inside, same);
        amounts = All-set (AmountsFit k) b.seats i w is.fit sound.amounts;
      }
    where
      none_is : (r : Piece) → Some r ≡ None → ⊥
      none_is r e = cc

pub keeps_post : (b : BoardState) (i a : ℕ) → IsSizes b.sizes → IsSound b → CanPost b.sizes (seat_at b i) a → IsSound (after_post b i a)
keeps_post b i a sizes sound can = go (seat_at b i).hand refl can.has
  where
    go : (o : Option Piece) → (seat_at b i).hand ≡ o → LacksAmounts b.sizes.width o → IsSound (after_post b i a)
    go None e has = absurd has
    go (Some p) e has = subst (λ o. IsSound (board b.sizes b.next (added b.words (word_of b.sizes o) a) (slice_set b.seats i (posted_for b.sizes.width (seat_at b i) o a)))) (sym e) (keeps_grown b i a p sizes sound can.live e has can.within)
