use Rattle.std.proofs.Common.{refl, arith, ◌*◌}
use Rattle.byte_sums.proofs.Chunks.{vector-more, lag_sum-none, sum-small}
use Rattle.byte_sums.proofs.dots.vector_sum.Goals as goal

pub loop-i-init : goal.loop-i-init
loop-i-init c = record { sum = lag_sum-none c.args.a.now c.args.b.now c.args.at; lanes = refl }

pub plus-sums-requires-clause-small : goal.plus-sums-requires-clause-small
plus-sums-requires-clause-small c =
    sum-small c.args.a.now c.args.b.now c.args.at (32 * c.loop-i.i) c.requires.weights c.type_inv.b (omega arith) _ c.loop-i.invariant.sum

pub loop-i-preserved : goal.loop-i-preserved
loop-i-preserved c = record {
  sum = vector-more c.args.a.now c.args.b.now c.args.at c.loop-i.i _ _ _ _ (omega arith) (omega arith) refl c.weights.ensures.value c.loop-i.invariant.sum c.plus-sums.ensures.value;
  lanes = c.plus-sums.ensures.lanes;
}

pub total-requires : goal.total-requires
total-requires c =
    sum-small c.args.a.now c.args.b.now c.args.at (32 * c.loop-i.i) c.requires.weights c.type_inv.b (omega arith) _ c.loop-i.invariant.sum
