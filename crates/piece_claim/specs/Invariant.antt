-- What every event keeps.
use Rattle.std.specs.Prelude.{◌≡◌, ℕ, ◌+◌, ◌*◌, ◌<◌, ◌≤◌, ◌^◌, min, [], true, false, None, IfSome, All, length, slice_index}
use Rattle.std.specs.List.{sum_by}
use Rattle.piece_claim.specs.declared.sizes.Sizes.{Sizes}
use Rattle.piece_claim.specs.State.{Piece, Seat, BoardState, pieces, sums, weight, times, amount_at, live_shares, done_shares}

-- Sizes of a board: none is zero, and neither the counter nor a sum can pass 64 bits.
pub record IsSizes (k : Sizes) : Type 0 where
  pub groups : 0 < k.groups
  pub per_group : 0 < k.per_group
  pub width : 0 < k.width
  pub bound : 0 < k.bound
  pub shares : 0 < k.shares
  pub few : k.shares ≤ 64
  pub fits : k.per_group * k.bound < 2 ^ 64
  pub room : k.groups * k.per_group + k.shares < 2 ^ 64
  pub words : k.groups * k.width < 2 ^ 32

-- each number below the lesser of `next` and the number of pieces is finished or in hand in exactly one seat, once
pub record DrawnOnce (b : BoardState) : Type 0 where
  pub once : (n : ℕ) → n < min b.next (pieces b.sizes) → times n b.seats ≡ 1
  -- and no other number is
  pub no_other : (n : ℕ) → min b.next (pieces b.sizes) ≤ n → times n b.seats ≡ 0

-- each word is the sum over all seats of the amounts posted to it
pub record WordsAreSums (b : BoardState) : Type 0 where
  pub count : length b.words ≡ sums b.sizes
  pub each : (w : ℕ) → w < sums b.sizes → slice_index b.words w ≡ weight (amount_at b.sizes w) b.seats

-- the shares of the live seats add up to all shares, each live seat has at least one, and an ended one has nothing
pub record SharesAddUp (b : BoardState) : Type 0 where
  pub total : sum_by live_shares b.seats ≡ b.sizes.shares
  pub some : All (λ v. v.ended ≡ false → 0 < v.shares) b.seats
  pub none : All (λ v. v.ended ≡ true → (v.shares ≡ 0) × (v.finished ≡ []) × (v.hand ≡ None)) b.seats

-- an amount of a piece is within the bound
abbrev pub AmountsWithin : ℕ → Piece → Type 0
AmountsWithin bound p = All (λ a. a ≤ bound) p.amounts

-- a finished piece has all its amounts, a piece in hand lacks some
pub record AmountsFit (k : Sizes) (v : Seat) : Type 0 where
  pub finished : All (λ p. (length p.amounts ≡ k.width) × AmountsWithin k.bound p) v.finished
  pub hand : IfSome v.hand (λ p. (length p.amounts < k.width) × AmountsWithin k.bound p)

-- The invariant of a board, in six parts.
pub record IsSound (b : BoardState) : Type 0 where
  pub drawn : DrawnOnce b
  pub words : WordsAreSums b
  pub shares : SharesAddUp b
  -- a done seat has nothing in hand, and then no piece is left to draw
  pub done : All (λ v. v.done ≡ true → (v.hand ≡ None) × (pieces b.sizes ≤ b.next)) b.seats
  -- each number past the last piece was drawn by a seat of its own, which is done
  pub next : b.next ≤ pieces b.sizes + sum_by done_shares b.seats
  pub amounts : All (AmountsFit b.sizes) b.seats
