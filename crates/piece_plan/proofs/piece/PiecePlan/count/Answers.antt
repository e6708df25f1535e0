use Rattle.std.proofs.Common.{ℕ, ◌*◌, ◌∙◌, ap, sym, arith}
use Rattle.piece_plan.proofs.PieceLemmas.{length-groups, pieces-bound}
use Rattle.piece_plan.proofs.piece.PiecePlan.count.Goals as goal

pub overflow_mul-result-2 : goal.overflow_mul-result-2
overflow_mul-result-2 c =
    let count = rw (← c.self.view_is) at c.per_group.ensures.count in
    let bound = pieces-bound _ c.per_group.result c.self.invariant count in
    rw (c.from.ensures, c.from-2.ensures) (omega (arith, bound))

pub returns-clause-many : goal.returns-clause-many
returns-clause-many c =
    let count = rw (← c.self.view_is) at c.per_group.ensures.count in
    rw (c.from.ensures, c.from-2.ensures, ← c.self.view_is)
    (ap (λ (n : ℕ). c.self.inside.epoch.products * c.self.inside.epoch.baselines * n) count ∙ sym (length-groups _))
