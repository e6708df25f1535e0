use Rattle.std.proofs.Common.{subst, ◌≤◌, ◌+◌}
use Rattle.piece_claim.specs.State.{pieces}
use Rattle.piece_claim.specs.Shown.{state_of}
use Rattle.piece_claim.proofs.Bounds.{next_bound}
use Rattle.piece_claim.proofs.board.Board.drawn.Goals as goal

pub returns-clause-bounded : goal.returns-clause-bounded
returns-clause-bounded c = subst (λ b. c.self.inside.next ≤ (pieces b.sizes + b.sizes.shares)) c.self.view_is (next_bound (state_of c.self.inside) c.self.invariant.sound)
