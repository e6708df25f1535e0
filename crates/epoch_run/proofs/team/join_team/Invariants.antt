use Rattle.std.proofs.Common.{◌≡◌, ◌+◌, true, All, vec_len}
use Rattle.epoch_run.specs.Amounts.{HaveAmounts}
use Rattle.epoch_run.specs.Team.{IsOver}
use Rattle.epoch_run.proofs.team.join_team.Given as goal

abbrev pub invariant-loop-worker : goal.invariant-loop-worker
invariant-loop-worker l = record {
  team : All (IsOver l._work l.board) l.team.items;
  of : l.seat.board ≡ l.board;
  over : l.seat.state.done ≡ true;
  shares : l.seat.state.shares + vec_len l.team ≡ vec_len l.fn.team;
  amounts : HaveAmounts l._work l.seat.state.finished;
}

abbrev pub decreases-loop-worker : goal.decreases-loop-worker
decreases-loop-worker l = goal.left-loop-worker l
