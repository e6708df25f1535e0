-- What the pieces of seats weigh.
use Rattle.std.proofs.Common.{◌≡◌, ◌<◌, ◌≤◌, ℕ, ◌+◌, min, List, [], ◌∷◌, ◌++◌, length, get_or, set, false, Option, None, Some, refl, sym, ap, ◌∙◌, arith, ⊎_elim}
use Rattle.std.specs.List.{sum_by, flat_map}
use Rattle.std.specs.Option.{option_to_list}
use Rattle.std.proofs.lemmas.Bool.{cases_lt, false≢true}
use Rattle.std.proofs.lemmas.List.{get_or_past}
use Rattle.std.proofs.lemmas.List.Sums.{sum_by-cons, sum_by-append, sum_by-set, sum_by_push, get_or-le-sum_by}
use Rattle.piece_claim.specs.State.{Piece, Seat, BoardState, pieces, ended_seat, seat_at, held_by, weight, has_number, sum_below}
use Rattle.piece_claim.specs.Invariant.{DrawnOnce}
use Rattle.piece_claim.proofs.Numbers.{one-same, sum_of_all}

-- what a piece in hand weighs
abbrev pub in_hand : (Piece → ℕ) → Option Piece → ℕ
in_hand f hand = sum_by f (option_to_list hand)

pub in_hand-some : (f : Piece → ℕ) (p : Piece) → in_hand f (Some p) ≡ f p
in_hand-some f p = omega (arith, sum_by-cons f p [])

pub part : (f : Piece → ℕ) (v : Seat) → sum_by f (held_by v) ≡ sum_by f v.finished + in_hand f v.hand
part f v = sum_by-append f v.finished (option_to_list v.hand)

-- what a seat weighs that has nothing in hand
pub part_free : (f : Piece → ℕ) (v : Seat) → v.hand ≡ None → sum_by f (held_by v) ≡ sum_by f v.finished
part_free f v free = omega (arith, part f v, ap (in_hand f) free)

-- where one seat is replaced, the sum changes by the difference of the two parts
pub weight-set : (f : Piece → ℕ) (seats : List Seat) (i : ℕ) (w : Seat) → i < length seats → weight f (set seats i w) + sum_by f (held_by (get_or seats i ended_seat)) ≡ weight f seats + sum_by f (held_by w)
weight-set f seats i w lt = sum_by-set (λ v. sum_by f (held_by v)) seats i w ended_seat lt

pub weight_push : (f : Piece → ℕ) (seats : List Seat) (w : Seat) → weight f (seats ++ w ∷ []) ≡ weight f seats + sum_by f (held_by w)
weight_push f seats w = sum_by_push (λ v. sum_by f (held_by v)) seats w

pub part-le-weight : (f : Piece → ℕ) (seats : List Seat) (i : ℕ) → i < length seats → sum_by f (held_by (get_or seats i ended_seat)) ≤ weight f seats
part-le-weight f seats i lt = get_or-le-sum_by (λ v. sum_by f (held_by v)) seats i ended_seat lt

-- a live seat is one of the list
pub live_inside : (seats : List Seat) (i : ℕ) → (get_or seats i ended_seat).ended ≡ false → i < length seats
live_inside seats i live = ⊎_elim
    (λ (lt : i < length seats). lt)
    (λ (le : length seats ≤ i). absurd (false≢true (sym live ∙ ap (λ (v : Seat). v.ended) (get_or_past seats i ended_seat le))))
    (cases_lt i (length seats))

-- all pieces of all seats in one list
pub weight-flat : (f : Piece → ℕ) (seats : List Seat) → weight f seats ≡ sum_by f (flat_map held_by seats)
weight-flat f [] = refl
weight-flat f (v ∷ seats) = omega (
  arith,
  sum_by-cons (λ (u : Seat). sum_by f (held_by u)) v seats,
  sum_by-append f (held_by v) (flat_map held_by seats),
  weight-flat f seats,
)

-- a weight of numbers alone is the sum over the numbers that were drawn
pub weight_of_numbers : (b : BoardState) → DrawnOnce b → (h : ℕ → ℕ) → weight (λ p. h p.number) b.seats ≡ sum_below h (min b.next (pieces b.sizes))
weight_of_numbers b drawn h =
    let ps = flat_map held_by b.seats in
    weight-flat (λ p. h p.number) b.seats
    ∙ sum_of_all (λ (p : Piece). p.number) h ps (min b.next (pieces b.sizes))
    (λ n lt. sym (weight-flat (has_number n) b.seats) ∙ drawn.once n lt)
    (λ n le. sym (weight-flat (has_number n) b.seats) ∙ drawn.no_other n le)

-- the number in hand is that of a piece
pub hand_inside : (b : BoardState) (i : ℕ) (p : Piece) → DrawnOnce b → i < length b.seats → (seat_at b i).hand ≡ Some p → p.number < pieces b.sizes
hand_inside b i p drawn inside has = ⊎_elim
    (λ (lt : p.number < pieces b.sizes). lt)
    (λ (le : pieces b.sizes ≤ p.number).
    let mine = part-le-weight (has_number p.number) b.seats i inside in
    let here = part (has_number p.number) (seat_at b i) in
    absurd (omega (arith, mine, here, ap (in_hand (has_number p.number)) has, in_hand-some (has_number p.number) p, one-same p.number p.number refl, drawn.no_other p.number (omega arith))))
    (cases_lt p.number (pieces b.sizes))
