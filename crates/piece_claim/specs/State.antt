-- A board's state: the number that is drawn next, the sums, and what each seat has.
use Rattle.std.specs.Prelude.{ℕ, zero, suc, ◌+◌, ◌-◌, ◌*◌, ◌/◌, ◌%◌, ◌^◌, ◌==◌, List, [], ◌∷◌, ◌++◌, replicate, Bool, true, false, Option, None, if◌then◌else◌, slice_index, slice_index_or}
use Rattle.std.specs.List.{sum_by}
use Rattle.std.specs.Option.{option_to_list}
use Rattle.piece_claim.specs.declared.sizes.Sizes.{Sizes}

-- a piece by its number, and the amounts posted for it so far
pub record Piece : Type 0 where
  pub number : ℕ
  pub amounts : List ℕ

-- A seat: its shares, its finished pieces, its piece in hand, whether it has drawn a number past the last piece, and
-- whether it was joined to another. A seat that has not ended is live.
pub record Seat : Type 0 where
  pub shares : ℕ
  pub finished : List Piece
  pub hand : Option Piece
  pub done : Bool
  pub ended : Bool

pub record BoardState : Type 0 where
  pub sizes : Sizes
  pub next : ℕ
  pub words : List ℕ
  pub seats : List Seat

abbrev pub piece : ℕ → List ℕ → Piece
piece n amounts = record { number = n; amounts = amounts }

abbrev pub seat : ℕ → List Piece → Option Piece → Bool → Bool → Seat
seat shares finished hand done ended = record { shares = shares; finished = finished; hand = hand; done = done; ended = ended }

abbrev pub board : Sizes → ℕ → List ℕ → List Seat → BoardState
board k next words seats = record { sizes = k; next = next; words = words; seats = seats }

-- the number of pieces
abbrev pub pieces : Sizes → ℕ
pieces k = k.groups * k.per_group

-- the number of sums
abbrev pub sums : Sizes → ℕ
sums k = k.groups * k.width

-- a seat that has drawn nothing yet
abbrev pub new_seat : ℕ → Seat
new_seat shares = seat shares [] None false false

-- what is left of a seat that was joined to another
abbrev pub ended_seat : Seat
ended_seat = seat 0 [] None false true

-- the board at the start: nothing drawn, no sum, and one seat with all shares
abbrev pub opening : Sizes → BoardState
opening k = board k 0 (replicate (sums k) 0) (new_seat k.shares ∷ [])

-- the sizes of a board whose bound is the greatest for which no sum passes 64 bits
abbrev pub widest : ℕ → ℕ → ℕ → ℕ → Sizes
widest groups per_group width shares =
    record { groups = groups; per_group = per_group; width = width; bound = (2 ^ 64 - 1) / per_group; shares = shares }

-- the seat of a number; past the last one there is none, as if it had ended
abbrev pub seat_at : BoardState → ℕ → Seat
seat_at b i = slice_index_or b.seats i ended_seat

-- the pieces that a seat has finished, and the one in its hand
abbrev pub held_by : Seat → List Piece
held_by v = v.finished ++ option_to_list v.hand

-- what all pieces of all seats weigh, if f is the weight of one
abbrev pub weight : (Piece → ℕ) → List Seat → ℕ
weight f seats = sum_by (λ v. sum_by f (held_by v)) seats

-- 1 for a piece of that number
abbrev pub has_number : ℕ → Piece → ℕ
has_number n p = if p.number == n then 1 else 0

-- how often a piece of that number stands among the pieces of all seats
abbrev pub times : ℕ → List Seat → ℕ
times n seats = weight (has_number n) seats

-- what was posted to a sum for a piece: the sums of a group stand in a row, one for each of a piece's amounts
abbrev pub amount_at : Sizes → ℕ → Piece → ℕ
amount_at k w p = if p.number / k.per_group == w / k.width then slice_index p.amounts (w % k.width) else 0

-- the sum of h over the numbers below n
abbrev pub sum_below : (ℕ → ℕ) → ℕ → ℕ
sum_below h zero = 0
sum_below h (suc n) = sum_below h n + h n

-- the shares of a live seat
abbrev pub live_shares : Seat → ℕ
live_shares v = if v.ended then 0 else v.shares

-- the shares of a seat that is done
abbrev pub done_shares : Seat → ℕ
done_shares v = if v.done then v.shares else 0
