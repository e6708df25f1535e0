use Rattle.std.proofs.Common.{◌≡◌, take}
use Rattle.piece_claim.specs.State.{piece}
use Rattle.piece_claim.specs.Moves.{with_piece}
use Rattle.atomic_sums.specs.Views.{seen_by}
use Rattle.atomic_sums.proofs.board.post_all.Given as goal

abbrev pub invariant-loop-i : goal.invariant-loop-i
invariant-loop-i l =
    (l.seat.table_id ≡ l.initial.seat.table_id)
    × (l.seat.me ≡ (seen_by l.initial.seat.me.0.sizes (with_piece l.initial.seat.me.0.sizes.width l.initial.seat.me.0.seat (piece l._n (take l.i l.amounts))) l.initial.seat.me.0.last, l.initial.seat.me.1))
