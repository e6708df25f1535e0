use Rattle.std.proofs.Common.{◌≡◌, take}
use Rattle.piece_claim.specs.Events.{Runs}
use Rattle.piece_claim.specs.Invariant.{IsSound}
use Rattle.piece_claim.proofs.board.Board.run_events.Given as goal

abbrev pub invariant-loop-e : goal.invariant-loop-e
invariant-loop-e l = Runs l.initial.self (take l.e-index l.list) l.self × IsSound l.self × (l.self.sizes ≡ l.initial.self.sizes)
