use Rattle.std.proofs.Common.{arith, sym, subst}
use Rattle.piece_claim.specs.Moves.{CanSplit}
use Rattle.atomic_sums.proofs.RuleSteps.{splits}
use Rattle.atomic_sums.proofs.Posting.{of_board}
use Rattle.atomic_sums.proofs.board.SumBoard.split.Goals as goal

pub split_seat-second-requires : goal.split_seat-second-requires
split_seat-second-requires c =
    let b = c.self.inside in
    let of = of_board c.seat.inside b c.args.seat c.args.self.now c.seat.view_is c.self.view_is c.requires.of in
    let can = subst (λ v. CanSplit v.state) (sym c.seat.view_is) c.requires.fresh in
    (of.table, omega (arith, c.self.invariant.words), splits b.table.shared.key c.seat.inside.seat.id c.seat.inside.seat.me.0 can)
