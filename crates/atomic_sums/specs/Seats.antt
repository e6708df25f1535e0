-- What callers see of a board and of a seat.
use Rattle.std.specs.Prelude.{◌≡◌, ℕ, ◌<◌, ◌≤◌, List, [], ◌∷◌, ◌++◌, Option, Some, None, Contains}
use Rattle.atomic_table.specs.Seated.{TableId}
use Rattle.piece_claim.specs.declared.sizes.Sizes.{Sizes}
use Rattle.piece_claim.specs.State.{Piece, Seat, BoardState, piece, seat, pieces}
use Rattle.piece_claim.specs.Moves.{finishing, holding}
use Rattle.piece_claim.specs.Invariant.{IsSound}
use Rattle.atomic_sums.specs.Views.{times_in}

-- which board it is, and its sizes
pub record BoardId : Type 0 where
  pub table : TableId
  pub sizes : Sizes

-- the board of a seat, its state, and the number past the last piece that it drew, once it has
pub record SeatOf : Type 0 where
  pub board : BoardId
  pub state : Seat
  pub last : Option ℕ

abbrev pub seat_of : BoardId → Seat → Option ℕ → SeatOf
seat_of b v last = record { board = b; state = v; last = last }

-- the piece in hand is finished with these amounts
abbrev pub finished_with : Option Piece → Seat → List ℕ → Seat
finished_with None v amounts = v
finished_with (Some p) v amounts = seat v.shares (v.finished ++ piece p.number amounts ∷ []) None v.done v.ended

-- What a draw gives. A number of a piece is none of the seat's finished pieces, and is in hand. Where there is none,
-- the number that was drawn is past the last piece, and the seat is done with it.
abbrev pub Drew : SeatOf → Option ℕ → SeatOf → Type 0
Drew v None after = (n : ℕ) × (pieces v.board.sizes ≤ n) × (after ≡ seat_of v.board (finishing v.state) (Some n))
Drew v (Some n) after = (n < pieces v.board.sizes) × (times_in n v.state.finished ≡ 0) × (after ≡ seat_of v.board (holding v.state n) v.last)

-- each number below n stands once in the list, and no other number does
pub record EachOnce (n : ℕ) (ps : List Piece) : Type 0 where
  pub once : (x : ℕ) → x < n → times_in x ps ≡ 1
  pub no_other : (x : ℕ) → n ≤ x → times_in x ps ≡ 0

-- the board's last state has the invariant, the seat is one of its seats, and P is true of its words
abbrev pub LastState : Sizes → Seat → (List ℕ → Type 0) → Type 0
LastState k v P = (b : BoardState) × (b.sizes ≡ k) × IsSound b × Contains b.seats v × P b.words
