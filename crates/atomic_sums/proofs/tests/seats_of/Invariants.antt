use Rattle.std.proofs.Common.{◌≡◌, ◌+◌, ◌-◌, All, None, vec_len}
use Rattle.piece_claim.specs.State.{new_seat}
use Rattle.atomic_sums.specs.Seats.{seat_of}
use Rattle.atomic_sums.proofs.tests.seats_of.Given as goal

abbrev pub invariant-loop : goal.invariant-loop
invariant-loop l = record {
  seat : l.seat ≡ seat_of l.board (new_seat (l.shares + 1 - l.counter)) None;
  count : vec_len l.seats + 1 ≡ l.counter;
  fresh : All (λ s. (s.board ≡ l.board) × (s.state ≡ new_seat 1)) l.seats.items;
}
