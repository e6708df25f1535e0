use Rattle.std.proofs.Common.{◌∙◌, ap, refl, arith}
use Rattle.fringe_search.specs.Sums.{size, nat_sum}
use Rattle.fringe_search.specs.Layout.{cell_at}
use Rattle.fringe_search.proofs.SumBounds.{size_more}
use Rattle.fringe_search.proofs.sums.amplitude_of.Goals as goal

pub loop-m-init : goal.loop-m-init
unfolding nat_sum
loop-m-init c = record { sum = refl; within = omega arith }

pub loop-m-preserved : goal.loop-m-preserved
loop-m-preserved c = record {
  sum = size_more (λ m. size (cell_at c.args.series.now m c.args.lag)) c.loop-m.m c.loop-m.sum c.size_of-sum.result _ c.loop-m.invariant.sum refl (c.size_of-sum.ensures.value ∙ ap size c.cell.ensures);
  within = omega (arith, c.loop-m.invariant.within, c.size_of-sum.ensures.within);
}
