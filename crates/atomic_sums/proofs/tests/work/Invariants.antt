use Rattle.std.proofs.Common.{◌≡◌}
use Rattle.piece_claim.specs.Moves.{CanDraw}
use Rattle.atomic_sums.proofs.tests.work.Given as goal

abbrev pub invariant-loop : goal.invariant-loop
invariant-loop g l = record {
  of : l.seat.board ≡ l.board;
  idle : CanDraw l.seat.state;
  share : l.seat.state.shares ≡ 1;
}
