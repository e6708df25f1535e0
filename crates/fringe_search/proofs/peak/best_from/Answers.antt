use Rattle.std.proofs.Common.{◌≡◌, ℕ, ◌+◌, ◌*◌, ◌∙◌, w32, to_z, of_z, subst, arith}
use Rattle.std.proofs.lemmas.Int.{ints}
use Rattle.fringe_search.specs.Best.{IsBest}
use Rattle.fringe_search.proofs.Steps.{best_more, best_next}
use Rattle.fringe_search.proofs.peak.best_from.Goals as goal

pub loop-n-preserved : goal.loop-n-preserved
loop-n-preserved c =
    let same : to_z w32 (of_z w32 c.rate_at-rate.result) ≡ c.rate_at-rate.result = omega (arith, ints, c.rate_at-rate.ensures.rate.least, c.rate_at-rate.ensures.rate.most) in
    best_more c.args.series.now c.args.grid.now c.args.lag c.loop-n.n c.loop-n.best c.point_from.result c.better-best.result c.loop-n.invariant c.point_from.ensures.point
    c.point_from.ensures.lag
    (c.point_from.ensures.rate ∙ same ∙ c.rate_at-rate.ensures.value)
    c.better-best.ensures.taken
    c.better-best.ensures.kept

pub returns : goal.returns
returns c =
    let all : c.loop-n.n ≡ 2 * c.args.grid.now.rates + 1 = omega arith in
    let best = subst (λ (n : ℕ). IsBest c.args.series.now c.args.grid.now c.args.lag n c.loop-n.best) all c.loop-n.invariant in
    record { best = best_next c.args.series.now c.args.grid.now c.args.lag c.loop-n.best best }
