-- What a board's fields stand for, and what is true of them.
use Rattle.piece_claim.specs.declared.board.Board.TheInside.{Inside}
use Rattle.piece_claim.specs.State.{BoardState, board}
use Rattle.piece_claim.specs.Invariant.{IsSizes, IsSound}

abbrev pub state_of : Inside → BoardState
state_of b = board b.sizes b.next b.words.items b.seats.items

-- the sizes are those of a board, and the state has the invariant
pub record IsBoard (b : BoardState) : Type 0 where
  pub sizes : IsSizes b.sizes
  pub sound : IsSound b
