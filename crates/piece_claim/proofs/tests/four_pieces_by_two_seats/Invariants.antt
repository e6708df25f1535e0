use Rattle.std.proofs.Common.{◌≡◌}
use Rattle.piece_claim.specs.State.{widest}
use Rattle.piece_claim.proofs.tests.four_pieces_by_two_seats.Given as goal

abbrev pub invariant-loop-name : goal.invariant-loop-name
invariant-loop-name g l = l.board.sizes ≡ widest 2 2 1 2
