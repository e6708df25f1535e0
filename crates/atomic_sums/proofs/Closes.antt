-- At the close one seat has all shares, so every piece is in it.
use Rattle.std.proofs.Common.{◌≡◌, ◌<◌, ℕ, zero, suc, min, List, [], ◌∷◌, length, get_or, drop, Bool, true, false, None, if◌then◌else◌, refl, sym, ap, ◌∙◌, subst, arith, All}
use Rattle.std.specs.List.{sum_by}
use Rattle.std.proofs.lemmas.List.{get_or_default}
use Rattle.std.proofs.lemmas.List.FromFn.{fill_by_all}
use Rattle.std.proofs.lemmas.List.Sums.{sum_by-cons, get_or-le-sum_by}
use Rattle.std.proofs.lemmas.List.Elements.{All-head, All-tail}
use mathlib.Core.Option.{some}
use lib.ListN.{get_elem?}
use Rattle.piece_claim.specs.declared.sizes.Sizes.{Sizes}
use Rattle.piece_claim.specs.State.{Piece, Seat, BoardState, pieces, sums, ended_seat, seat_at, held_by, weight, has_number, amount_at, live_shares}
use Rattle.piece_claim.proofs.Weights.{part_free, live_inside}
use Rattle.atomic_sums.specs.Views.{SeatView}
use Rattle.atomic_sums.specs.Rule.{Keeps}
use Rattle.atomic_sums.specs.Seats.{BoardId, SeatOf, EachOnce, LastState}
use Rattle.atomic_sums.specs.Sums.{Totals, totals_of}
use Rattle.atomic_sums.specs.Fields.{board_id, seat_in, IsTable, IsSeat}
use Rattle.atomic_sums.specs.declared.board.SumBoard.TheInside.{Inside as BoardFields}
use Rattle.atomic_sums.specs.declared.board.BoardSeat.TheInside.{Inside as SeatFields}
use Rattle.atomic_sums.proofs.RuleSteps.{Table1, at_seat, state_of}

abbrev HasShare : Seat → Type 0
HasShare v = v.ended ≡ false → 0 < v.shares

abbrev HasNothing : Seat → Type 0
HasNothing v = v.ended ≡ true → (v.shares ≡ 0) × (v.finished ≡ []) × (v.hand ≡ None)

-- a seat without live shares has no piece
part_zero : (f : Piece → ℕ) (v : Seat) → live_shares v ≡ 0 → HasShare v → HasNothing v → sum_by f (held_by v) ≡ 0
part_zero f v zero_shares has lacks = go v.ended refl
  where
    go : (e : Bool) → v.ended ≡ e → sum_by f (held_by v) ≡ 0
    go true e = let h = lacks e in omega (arith, part_free f v h.2, ap (sum_by f) h.1)
    go false e = absurd (omega (arith, has e, zero_shares, ap (λ t. if t then 0 else v.shares) e))

rest_zero : (f : Piece → ℕ) (seats : List Seat) → sum_by live_shares seats ≡ 0 → All HasShare seats → All HasNothing seats → weight f seats ≡ 0
rest_zero f [] zero_shares has lacks = refl
rest_zero f (v ∷ seats) zero_shares has lacks =
    let all = sum_by-cons live_shares v seats in
    let here = part_zero f v (omega arith) (All-head HasShare v seats has) (All-head HasNothing v seats lacks) in
    let rest = rest_zero f seats (omega arith) (All-tail HasShare v seats has) (All-tail HasNothing v seats lacks) in
    omega (arith, sum_by-cons (λ (u : Seat). sum_by f (held_by u)) v seats, here, rest)

-- where one seat has all live shares, it has every piece
all_in_one : (f : Piece → ℕ) (seats : List Seat) (i : ℕ) → i < length seats → sum_by live_shares seats ≡ live_shares (get_or seats i ended_seat) → All HasShare seats → All HasNothing seats → weight f seats ≡ sum_by f (held_by (get_or seats i ended_seat))
all_in_one f [] i lt all has lacks = absurd (omega arith)
all_in_one f (v ∷ seats) zero lt all has lacks =
    let rest = rest_zero f seats (omega (arith, sum_by-cons live_shares v seats)) (All-tail HasShare v seats has) (All-tail HasNothing v seats lacks) in
    omega (arith, sum_by-cons (λ (u : Seat). sum_by f (held_by u)) v seats, rest)
all_in_one f (v ∷ seats) (suc i) lt all has lacks =
    let inside : i < length seats = omega arith in
    let total = sum_by-cons live_shares v seats in
    let part = get_or-le-sum_by live_shares seats i ended_seat inside in
    let here = part_zero f v (omega arith) (All-head HasShare v seats has) (All-head HasNothing v seats lacks) in
    let rest = all_in_one f seats i inside (omega arith) (All-tail HasShare v seats has) (All-tail HasNothing v seats lacks) in
    omega (arith, sum_by-cons (λ (u : Seat). sum_by f (held_by u)) v seats, here, rest)

-- the last state, in which the seat has all shares and is done
module _ (k : Sizes) (s : Table1) (id : ℕ) (v : SeatView) (keep : Keeps k s) (at : get_elem? s.views id ≡ some v) (live : v.seat.ended ≡ false) (over : v.seat.done ≡ true) (every : v.seat.shares ≡ k.shares) where
  abbrev b : BoardState
  b = state_of k s

  is : seat_at b id ≡ v.seat
  is = at_seat s.views id v at

  inside : id < length b.seats
  inside = live_inside b.seats id (ap (λ (u : Seat). u.ended) is ∙ live)

  weighs : (f : Piece → ℕ) → weight f b.seats ≡ sum_by f v.seat.finished
  weighs f =
      let mine : live_shares (seat_at b id) ≡ k.shares = ap live_shares is ∙ ap (λ e. if e then 0 else v.seat.shares) live ∙ every in
      let done = keep.sound.done id ended_seat inside (ap (λ (u : Seat). u.done) is ∙ over) in
      all_in_one f b.seats id inside (keep.sound.shares.total ∙ sym mine) keep.sound.shares.some keep.sound.shares.none
      ∙ part_free f (seat_at b id) done.0
      ∙ ap (λ (u : Seat). sum_by f u.finished) is

  all_drawn : min b.next (pieces k) ≡ pieces k
  all_drawn = omega (arith, (keep.sound.done id ended_seat inside (ap (λ (u : Seat). u.done) is ∙ over)).1)

  pub closes : EachOnce (pieces k) v.seat.finished
  closes = record {
    once = λ n lt. sym (weighs (has_number n)) ∙ keep.sound.drawn.once n (omega (arith, all_drawn));
    no_other = λ n le. sym (weighs (has_number n)) ∙ keep.sound.drawn.no_other n (omega (arith, all_drawn));
  }

  pub closes_words : drop 1 s.words ≡ (totals_of k v.seat.finished).totals
  closes_words = fill_by_all (λ w. sum_by (amount_at k w) v.seat.finished) (drop 1 s.words) (sums k) 0 keep.sound.words.count
      (λ w lt. keep.sound.words.each w lt ∙ weighs (amount_at k w))

  pub last_state : (P : List ℕ → Type 0) → P (drop 1 s.words) → LastState k v.seat P
  last_state P holds = (b, refl, keep.sound, (id, inside, within), holds)
    where
      within : get_or b.seats id v.seat ≡ v.seat
      within = get_or_default b.seats id v.seat ended_seat inside ∙ is

-- the same by the fields of a board and of a seat, of what callers see
module _ (fields : BoardFields) (part : SeatFields) (board : BoardId) (seat : SeatOf) (last : Table1) (board_is : board_id fields ≡ board) (seat_is : seat_in part ≡ seat)
    (table : IsTable fields) (own : IsSeat part) (kept : Keeps fields.table.shared.key last) (there : get_elem? last.views part.seat.id ≡ some part.seat.me.0)
    (done : seat.state.done ≡ true) (all : seat.state.shares ≡ board.sizes.shares) where
  same_sizes : fields.sizes ≡ board.sizes
  same_sizes = ap (λ (j : BoardId). j.sizes) board_is

  same_state : part.seat.me.0.seat ≡ seat.state
  same_state = ap (λ (u : SeatOf). u.state) seat_is

  keeps_own : Keeps fields.sizes last
  keeps_own = subst (λ (k : Sizes). Keeps k last) table.key kept

  is_done : part.seat.me.0.seat.done ≡ true
  is_done = ap (λ (u : Seat). u.done) same_state ∙ done

  has_all : part.seat.me.0.seat.shares ≡ fields.sizes.shares
  has_all = ap (λ (u : Seat). u.shares) same_state ∙ all ∙ ap (λ (k : Sizes). k.shares) (sym same_sizes)

  pub closed_once : EachOnce (pieces board.sizes) seat.state.finished
  closed_once =
      subst (λ (k : Sizes). EachOnce (pieces k) seat.state.finished) same_sizes
      (subst (λ (u : Seat). EachOnce (pieces fields.sizes) u.finished) same_state (closes fields.sizes last part.seat.id part.seat.me.0 keeps_own there own.live is_done has_all))

  abbrev with_words : List ℕ → Totals
  with_words words = record { totals = words; pieces = pieces fields.sizes }

  pub closed_sums : with_words (drop 1 last.words) ≡ totals_of board.sizes seat.state.finished
  closed_sums =
      ap with_words (closes_words fields.sizes last part.seat.id part.seat.me.0 keeps_own there own.live is_done has_all)
      ∙ ap (λ (k : Sizes). totals_of k part.seat.me.0.seat.finished) same_sizes
      ∙ ap (λ (u : Seat). totals_of board.sizes u.finished) same_state

  pub closed_last : (P : List ℕ → Type 0) → P (drop 1 last.words) → LastState board.sizes seat.state P
  closed_last P holds =
      subst (λ (k : Sizes). LastState k seat.state P) same_sizes
      (subst (λ (u : Seat). LastState fields.sizes u P) same_state (last_state fields.sizes last part.seat.id part.seat.me.0 keeps_own there own.live is_done has_all P holds))
