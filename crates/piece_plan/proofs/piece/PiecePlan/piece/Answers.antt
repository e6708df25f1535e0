use Rattle.std.proofs.Common.{arith}
use Rattle.piece_plan.proofs.PieceLemmas.{piece_is, product-small}
use Rattle.piece_plan.proofs.piece.PiecePlan.piece.Goals as goal

pub overflow_cast-result : goal.overflow_cast-result
overflow_cast-result c =
    let count = rw (← c.self.view_is) at c.per_group-per_group.ensures.count in
    let inside = rw (← c.self.view_is) at c.requires in
    omega (arith, product-small _ c.args.n c.per_group-per_group.result c.from-baselines.result c.self.invariant inside count c.from-baselines.ensures)

pub returns-clause-at : goal.returns-clause-at
returns-clause-at c =
    let count = rw (← c.self.view_is) at c.per_group-per_group.ensures.count in
    let inside = rw (← c.self.view_is) at c.requires in
    rw (← c.self.view_is)
    (piece_is _ c.args.n c.per_group-per_group.result c.from-baselines.result c.min.result c.self.invariant inside count c.from-baselines.ensures c.min.ensures)
