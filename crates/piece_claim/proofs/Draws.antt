-- A draw keeps the invariant.
use Rattle.std.proofs.Common.{◌≡◌, ◌≢◌, ◌<◌, ◌≤◌, ℕ, ◌+◌, ◌/◌, ◌%◌, [], length, get_or, set, Bool, true, false, None, if◌then◌else◌, eqb, refl, sym, ap, ◌∙◌, subst, arith, ⊎_elim, All}
use Rattle.std.proofs.lemmas.Bool.{cases_lt, cases_eq, false≢true, lt-ltb, le-ltb}
use Rattle.std.proofs.lemmas.List.Sums.{sum_by-set}
use Rattle.std.proofs.lemmas.List.Elements.{All-set, All-weaker, All-nil}
use Rattle.piece_claim.specs.declared.sizes.Sizes.{Sizes}
use Rattle.piece_claim.specs.State.{Piece, Seat, BoardState, piece, board, pieces, ended_seat, seat_at, weight, has_number, amount_at, live_shares, done_shares}
use Rattle.piece_claim.specs.Moves.{CanDraw, holding, finishing, after_draw}
use Rattle.piece_claim.specs.Invariant.{IsSizes, IsSound, SharesAddUp, AmountsFit}
use Rattle.piece_claim.proofs.Numbers.{one-same, one-other}
use Rattle.piece_claim.proofs.Weights.{in_hand-some, part, part_free, weight-set, live_inside}

-- a piece without amounts adds to no sum
pub amount_none : (k : Sizes) (w n : ℕ) → amount_at k w (piece n []) ≡ 0
amount_none k w n = go (eqb (n / k.per_group) (w / k.width))
  where
    go : (b : Bool) → (if b then get_or {A = ℕ} [] (w % k.width) 0 else 0) ≡ 0
    go true = refl
    go false = refl

module _ (b : BoardState) (i : ℕ) (sizes : IsSizes b.sizes) (sound : IsSound b) (can : CanDraw (seat_at b i)) where
  v : Seat
  v = seat_at b i

  inside : i < length b.seats
  inside = live_inside b.seats i can.live

  -- a new seat with these shares, not ended
  shares_kept : (w : Seat) → w.shares ≡ v.shares → w.ended ≡ false → SharesAddUp (board b.sizes (b.next + 1) b.words (set b.seats i w))
  unfolding v
  shares_kept w same live = record {
    total =
        let old : live_shares (get_or b.seats i ended_seat) ≡ v.shares = ap (λ e. if e then 0 else v.shares) can.live in
        let new : live_shares w ≡ v.shares = ap (λ e. if e then 0 else w.shares) live ∙ same in
        omega (arith, sum_by-set live_shares b.seats i w ended_seat inside, sound.shares.total, old, new);
    some = All-set (λ u. u.ended ≡ false → 0 < u.shares) b.seats i w (λ _. omega (arith, same, sound.shares.some i ended_seat inside can.live)) sound.shares.some;
    none = All-set (λ u. u.ended ≡ true → (u.shares ≡ 0) × (u.finished ≡ []) × (u.hand ≡ None)) b.seats i w (λ e. absurd (false≢true (sym live ∙ e))) sound.shares.none;
  }

  done_kept : (w : Seat) → (w.done ≡ true → (w.hand ≡ None) × (pieces b.sizes ≤ b.next + 1)) → All (λ u. u.done ≡ true → (u.hand ≡ None) × (pieces b.sizes ≤ b.next + 1)) (set b.seats i w)
  done_kept w here = All-set (λ u. u.done ≡ true → (u.hand ≡ None) × (pieces b.sizes ≤ b.next + 1)) b.seats i w here
      (All-weaker (λ u. u.done ≡ true → (u.hand ≡ None) × (pieces b.sizes ≤ b.next)) (λ u. u.done ≡ true → (u.hand ≡ None) × (pieces b.sizes ≤ b.next + 1)) (λ u was e. ((was e).0, omega (arith, (was e).1))) b.seats sound.done)

  -- the number is that of a piece
  keeps_holding : b.next < pieces b.sizes → IsSound (board b.sizes (b.next + 1) b.words (set b.seats i (holding v b.next)))
  unfolding v
  keeps_holding lt =
      let n = b.next in
      let w = holding v n in
      let more : (f : Piece → ℕ) → weight f (set b.seats i w) ≡ weight f b.seats + f (piece n []) =
      λ f. omega (arith, weight-set f b.seats i w inside, part_free f v can.free, part f w, in_hand-some f (piece n [])) in
      record {
        drawn = record {
          once = λ m less. ⊎_elim
              (λ (e : n ≡ m). omega (arith, more (has_number m), one-same n m e, sound.drawn.no_other m (omega arith)))
              (λ (differ : n ≢ m). omega (arith, more (has_number m), one-other n m differ, sound.drawn.once m (let l : m < n = omega (arith, less) in omega arith)))
              (cases_eq n m);
          no_other = λ m le. omega (arith, more (has_number m), one-other n m (λ e. omega arith), sound.drawn.no_other m (omega arith));
        };
        words = record {
          count = sound.words.count;
          each = λ x less. omega (arith, sound.words.each x less, more (amount_at b.sizes x), amount_none b.sizes x n);
        };
        shares = shares_kept w refl can.live;
        done = done_kept w (λ e. absurd (false≢true (sym can.busy ∙ e)));
        next = omega arith;
        amounts = All-set (AmountsFit b.sizes) b.seats i w record {
          finished = (sound.amounts i ended_seat inside).finished;
          hand = (sizes.width, All-nil (λ a. a ≤ b.sizes.bound));
        } sound.amounts;
      }

  -- it is not
  keeps_finishing : pieces b.sizes ≤ b.next → IsSound (board b.sizes (b.next + 1) b.words (set b.seats i (finishing v)))
  unfolding v
  keeps_finishing le =
      let n = b.next in
      let w = finishing v in
      let same : (f : Piece → ℕ) → weight f (set b.seats i w) ≡ weight f b.seats = λ f. omega (arith, weight-set f b.seats i w inside) in
      let was : done_shares v ≡ 0 = ap (λ d. if d then v.shares else 0) can.busy in
      let some : 0 < v.shares = sound.shares.some i ended_seat inside can.live in
      record {
        drawn = record {
          once = λ m less. omega (arith, same (has_number m), sound.drawn.once m (omega arith));
          no_other = λ m more. omega (arith, same (has_number m), sound.drawn.no_other m (omega arith));
        };
        words = record { count = sound.words.count; each = λ x less. omega (arith, sound.words.each x less, same (amount_at b.sizes x)) };
        shares = shares_kept w refl can.live;
        done = done_kept w (λ e. (can.free, omega arith));
        next = omega (arith, sound.next, sum_by-set done_shares b.seats i w ended_seat inside, was);
        amounts = All-set (AmountsFit b.sizes) b.seats i w record {
          finished = (sound.amounts i ended_seat inside).finished;
          hand = (sound.amounts i ended_seat inside).hand;
        } sound.amounts;
      }

  pub keeps_draw : IsSound (after_draw b i)
  unfolding v
  keeps_draw =
      let Q : Bool → Type 0 = λ t. IsSound (board b.sizes (b.next + 1) b.words (set b.seats i (if t then holding v b.next else finishing v))) in
      ⊎_elim
      (λ (lt : b.next < pieces b.sizes). subst Q (sym (lt-ltb b.next (pieces b.sizes) lt)) (keeps_holding lt))
      (λ (le : pieces b.sizes ≤ b.next). subst Q (sym (le-ltb b.next (pieces b.sizes) le)) (keeps_finishing le))
      (cases_lt b.next (pieces b.sizes))
