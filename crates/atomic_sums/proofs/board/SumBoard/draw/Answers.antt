use Rattle.std.proofs.Common.{arith, sym, subst}
use Rattle.piece_claim.specs.Moves.{CanDraw}
use Rattle.atomic_sums.proofs.RuleSteps.{draws}
use Rattle.atomic_sums.proofs.Posting.{of_board}
use Rattle.atomic_sums.proofs.board.SumBoard.draw.Goals as goal

pub fetch_add-n-requires : goal.fetch_add-n-requires
fetch_add-n-requires c =
    let b = c.self.inside in
    let of = of_board c.seat.inside b c.args.seat.now c.args.self.now c.seat.view_is c.self.view_is c.requires.of in
    let can = subst (λ v. CanDraw v.state) (sym c.seat.view_is) c.requires.idle in
    (of.table, omega (arith, c.self.invariant.words), draws b.table.shared.key b.table.shared.table_id.slots c.seat.inside.seat.id c.seat.inside.seat.me can)
