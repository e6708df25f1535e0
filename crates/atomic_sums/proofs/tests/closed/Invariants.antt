use Rattle.std.proofs.Common.{◌≡◌, ◌+◌, true, All, vec_len}
use Rattle.atomic_sums.proofs.tests.closed.Given as goal

abbrev pub invariant-loop-seat : goal.invariant-loop-seat
invariant-loop-seat l = record {
  over : All (λ s. (s.board ≡ l.board) × (s.state.done ≡ true) × (s.state.shares ≡ 1)) l.seats.items;
  of : l.whole.board ≡ l.board;
  done : l.whole.state.done ≡ true;
  shares : l.whole.state.shares + vec_len l.seats ≡ l.board.sizes.shares;
}

abbrev pub decreases-loop-seat : goal.decreases-loop-seat
decreases-loop-seat l = goal.left-loop-seat l
