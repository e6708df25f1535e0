-- Workers before and after their work.
use Rattle.std.specs.Prelude.{◌≡◌, ◌*◌, length, true}
use Rattle.piece_claim.specs.State.{new_seat}
use Rattle.atomic_sums.specs.Seats.{BoardId}
use Rattle.epoch_run.specs.Binned.{stretch_of}
use Rattle.epoch_run.specs.Amounts.{WorkFields, HaveAmounts, cells_of}
use Rattle.epoch_run.specs.declared.team.Worker.{Worker}

-- one share of the board, and room for the cells and amounts of a piece and for the cells of a run
pub record IsReady (work : WorkFields) (board : BoardId) (w : Worker) : Type 0 where
  pub of : w.seat.board ≡ board
  pub fresh : w.seat.state ≡ new_seat 1
  pub cells : length w.cells.items ≡ cells_of work
  pub stretch : length w.stretch.items ≡ stretch_of work.phase work.epoch.lags
  pub amounts : length w.amounts.items ≡ 3 * cells_of work

-- no piece is left, and each piece that the worker finished has its amounts
pub record IsOver (work : WorkFields) (board : BoardId) (w : Worker) : Type 0 where
  pub of : w.seat.board ≡ board
  pub over : w.seat.state.done ≡ true
  pub share : w.seat.state.shares ≡ 1
  pub amounts : HaveAmounts work w.seat.state.finished
