-- What follows from the invariant: the counter and the sums stay within 64 bits.
use Rattle.std.proofs.Common.{◌≡◌, ◌<◌, ◌≤◌, ℕ, ◌+◌, ◌*◌, ◌/◌, ◌%◌, min, [], length, get_or, slice_index, Bool, true, false, Option, None, Some, IfSome, if◌then◌else◌, eqb, refl, ap, arith, ⊎_elim, All}
use Rattle.std.specs.List.{sum_by}
use Rattle.std.specs.Option.{option_to_list}
use Rattle.std.proofs.lemmas.Bool.{cases_lt}
use Rattle.std.proofs.lemmas.List.{get_or_past}
use Rattle.std.proofs.lemmas.List.Sums.{get_or-le-sum_by}
use Rattle.std.proofs.lemmas.List.Elements.{All-append, All-nil, All-push, All-weaker}
use Rattle.piece_claim.specs.declared.sizes.Sizes.{Sizes}
use Rattle.piece_claim.specs.State.{Piece, Seat, BoardState, pieces, sums, ended_seat, seat_at, held_by, weight, amount_at, live_shares, done_shares}
use Rattle.piece_claim.specs.Invariant.{IsSizes, IsSound, AmountsFit, AmountsWithin}
use Rattle.piece_claim.proofs.Numbers.{sum_by-le_in, group_below}
use Rattle.piece_claim.proofs.Weights.{weight_of_numbers, live_inside}

-- the greatest amount at a sum of the piece's group
cap : Sizes → ℕ → ℕ → ℕ
cap k w n = if eqb (n / k.per_group) (w / k.width) then k.bound else 0

amount_capped : (k : Sizes) (w : ℕ) (p : Piece) → AmountsWithin k.bound p → amount_at k w p ≤ cap k w p.number
unfolding cap
amount_capped k w p within = go (eqb (p.number / k.per_group) (w / k.width))
  where
    amount : get_or p.amounts (w % k.width) 0 ≤ k.bound
    amount = ⊎_elim
        (λ (lt : w % k.width < length p.amounts). within (w % k.width) 0 lt)
        (λ (le : length p.amounts ≤ w % k.width). omega (arith, get_or_past p.amounts (w % k.width) 0 le))
        (cases_lt (w % k.width) (length p.amounts))

    go : (t : Bool) → (if t then get_or p.amounts (w % k.width) 0 else 0) ≤ (if t then k.bound else 0)
    go true = amount
    go false = omega arith

-- each piece of a seat has amounts within the bound
held_within : (k : Sizes) (v : Seat) → AmountsFit k v → All (AmountsWithin k.bound) (held_by v)
held_within k v fit = All-append (AmountsWithin k.bound) v.finished (option_to_list v.hand)
    (All-weaker (λ p. (length p.amounts ≡ k.width) × AmountsWithin k.bound p) (AmountsWithin k.bound) (λ p h. h.1) v.finished fit.finished)
    (go v.hand fit.hand)
  where
    go : (o : Option Piece) → IfSome o (λ (p : Piece). (length p.amounts < k.width) × AmountsWithin k.bound p) → All (AmountsWithin k.bound) (option_to_list o)
    go None h = All-nil (AmountsWithin k.bound)
    go (Some p) h = All-push (AmountsWithin k.bound) [] p (All-nil (AmountsWithin k.bound)) h.1

-- no word passes per_group * bound
pub word_bound : (b : BoardState) (w : ℕ) → IsSizes b.sizes → IsSound b → w < sums b.sizes → slice_index b.words w ≤ b.sizes.per_group * b.sizes.bound
unfolding cap
word_bound b w sizes sound lt =
    let k = b.sizes in
    let capped : weight (amount_at k w) b.seats ≤ weight (λ p. cap k w p.number) b.seats =
    sum_by-le_in (λ v. sum_by (amount_at k w) (held_by v)) (λ v. sum_by (λ (p : Piece). cap k w p.number) (held_by v)) b.seats
    (λ i d inside. sum_by-le_in (amount_at k w) (λ (p : Piece). cap k w p.number) (held_by (get_or b.seats i d))
    (All-weaker (AmountsWithin k.bound) (λ p. amount_at k w p ≤ cap k w p.number) (amount_capped k w) (held_by (get_or b.seats i d)) (held_within k (get_or b.seats i d) (sound.amounts i d inside)))) in
    omega (
      arith,
      sound.words.each w lt,
      capped,
      weight_of_numbers b sound.drawn (cap k w),
      group_below (w / k.width) k.per_group k.bound sizes.per_group (min b.next (pieces k)),
    )

done_le_live : (v : Seat) → (v.ended ≡ true → v.shares ≡ 0) → done_shares v ≤ live_shares v
done_le_live v none = go v.done v.ended none
  where
    go : (d e : Bool) → (e ≡ true → v.shares ≡ 0) → (if d then v.shares else 0) ≤ (if e then 0 else v.shares)
    go true true zero = omega (arith, zero refl)
    go true false zero = omega arith
    go false true zero = omega arith
    go false false zero = omega arith

-- the counter does not pass the number of pieces and the shares
pub next_bound : (b : BoardState) → IsSound b → b.next ≤ pieces b.sizes + b.sizes.shares
next_bound b sound =
    let le = sum_by-le_in done_shares live_shares b.seats (λ i d inside. done_le_live (get_or b.seats i d) (λ e. (sound.shares.none i d inside e).0)) in
    omega (arith, sound.next, le, sound.shares.total)

-- a live seat has no more than all shares
pub shares_bound : (b : BoardState) (i : ℕ) → IsSound b → (seat_at b i).ended ≡ false → (seat_at b i).shares ≤ b.sizes.shares
shares_bound b i sound live =
    let mine : live_shares (seat_at b i) ≡ (seat_at b i).shares = ap (λ e. if e then 0 else (seat_at b i).shares) live in
    omega (arith, get_or-le-sum_by live_shares b.seats i ended_seat (live_inside b.seats i live), mine, sound.shares.total)
