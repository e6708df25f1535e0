use Rattle.std.proofs.Common.{arith}
use Rattle.std.proofs.lemmas.Int.{ints}
use Rattle.corr_model.proofs.CellLemmas.{same_cell}
use Rattle.lag_kernel.proofs.sums.lag_sum.Goals as goal

pub returns-clause-value : goal.returns-clause-value
returns-clause-value c =
    same_cell _ _ _ _ _ _
    (omega (arith, ints, c.dot.ensures.value, c.dot-2.ensures.value))
    (omega (arith, ints, c.dot-3.ensures.value, c.dot-4.ensures.value))
    (omega (arith, c.both-count.ensures.value))

pub returns-clause-grown : goal.returns-clause-grown
returns-clause-grown c = record {
  re_low = omega (arith, ints);
  re_high = omega (arith, ints);
  im_low = omega (arith, ints);
  im_high = omega (arith, ints);
  count = omega arith;
}
