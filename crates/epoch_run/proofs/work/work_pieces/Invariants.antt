use Rattle.std.proofs.Common.{◌≡◌}
use Rattle.piece_claim.specs.State.{pieces}
use Rattle.piece_claim.specs.Moves.{CanDraw}
use Rattle.epoch_run.specs.Amounts.{HaveAmounts}
use Rattle.epoch_run.specs.Left.{left}
use Rattle.epoch_run.proofs.work.work_pieces.Given as goal

abbrev pub invariant-loop-n : goal.invariant-loop-n
invariant-loop-n g l = record {
  of : l.seat.board ≡ l.board;
  idle : CanDraw l.seat.state;
  shares : l.seat.state.shares ≡ l.initial.seat.state.shares;
  amounts : HaveAmounts l.work l.seat.state.finished;
}

abbrev pub decreases-loop-n : goal.decreases-loop-n
decreases-loop-n g l = left l.seat.state.finished (pieces l.board.sizes)
