use Rattle.std.proofs.Common.{◌≡◌, ◌∙◌, true, arith, ap, sym, subst}
use Rattle.piece_claim.specs.Moves.{CanJoin}
use Rattle.atomic_sums.proofs.RuleSteps.{joins, learns}
use Rattle.atomic_sums.proofs.Posting.{of_board}
use Rattle.atomic_sums.proofs.board.SumBoard.join.Goals as goal

pub join_seat-requires : goal.join_seat-requires
join_seat-requires c =
    let b = c.self.inside in
    let first = of_board c.a.inside b c.args.a c.args.self.now c.a.view_is c.self.view_is c.requires.of in
    let second = of_board c.b.inside b c.args.b c.args.self.now c.b.view_is c.self.view_is c.requires.other in
    let can : CanJoin c.a.inside.seat.me.0.seat c.b.inside.seat.me.0.seat = record {
      live = c.a.invariant.live;
      other_live = c.b.invariant.live;
      over = subst (λ v. v.state.done ≡ true) (sym c.a.view_is) c.requires.over.0;
      other_over = subst (λ v. v.state.done ≡ true) (sym c.b.view_is) c.requires.over.1;
    } in
    (first.table, second.table, c.b.invariant.empty, omega (arith, c.self.invariant.words), joins b.table.shared.key c.a.inside.seat.id c.b.inside.seat.id c.a.inside.seat.me.0 c.b.inside.seat.me.0 can)

pub load-requires : goal.load-requires
load-requires c =
    let b = c.self.inside in
    let first = of_board c.a.inside b c.args.a c.args.self.now c.a.view_is c.self.view_is c.requires.of in (
      c.join_seat.ensures.0 ∙ first.table,
      omega (arith, c.self.invariant.words),
      learns b.table.shared.key b.table.shared.table_id.slots c.join_seat.new.seat.id c.join_seat.new.seat.me (ap (λ m. m.0.seat.ended) c.join_seat.ensures.2 ∙ c.a.invariant.live),
    )
