use Rattle.std.proofs.Common.{rules, arith, ◌∙◌, ap}
use Rattle.piece_claim.specs.State.{seat_at, pieces}
use Rattle.piece_claim.specs.Moves.{CanDraw, drawn}
use Rattle.piece_claim.specs.Shown.{state_of}
use Rattle.piece_claim.proofs.EventLaws.{drew, next_fits, seat_read}
use Rattle.piece_claim.proofs.board.Board.draw.Goals as goal

pub overflow_add-self : goal.overflow_add-self
overflow_add-self c =
    let b = state_of c.self.inside in
    let can : CanDraw (seat_at b c.args.seat) = search rules in
    omega (arith, next_fits b c.args.seat c.self.invariant can)

pub invariant_of-self : goal.invariant_of-self
invariant_of-self c =
    let b = state_of c.self.inside in
    let can : CanDraw (seat_at b c.args.seat) = search rules in
    let was = seat_read b c.args.seat c.index_mut.result.now can.live c.index_mut.ensures.value in
    drew b c.args.seat c.draw.new.self c.self.invariant can (c.draw.ensures ∙ ap (λ v. drawn (pieces b.sizes) v b.next) was)

pub returns-clause-sound : goal.returns-clause-sound
returns-clause-sound c = (invariant_of-self c).sound
