use Rattle.std.proofs.Common.{◌≡◌, ◌+◌, ◌-◌, None, All, vec_len}
use Rattle.piece_claim.specs.State.{new_seat}
use Rattle.atomic_sums.specs.Seats.{seat_of}
use Rattle.epoch_run.specs.Team.{IsReady}
use Rattle.epoch_run.proofs.team.make_team.Given as goal

abbrev pub invariant-loop : goal.invariant-loop
invariant-loop l = record {
  seat : l.seat ≡ seat_of l.board (new_seat (l.shares + 1 - l.counter)) None;
  count : vec_len l.team + 1 ≡ l.counter;
  ready : All (IsReady l.work l.board) l.team.items;
}
