use Rattle.std.proofs.Common.{◌+◌, ◌*◌, refl, arith}
use Rattle.byte_sums.proofs.Chunks.{vector-more, sum-small, four-none, four-lags}
use Rattle.byte_sums.proofs.dots.vector_sums.Goals as goal

pub loop-i-init : goal.loop-i-init
loop-i-init c = four-none 8 c.args.a.now c.args.b.now c.args.at _ refl refl

pub plus-first-requires-clause-small : goal.plus-first-requires-clause-small
plus-first-requires-clause-small c =
    sum-small c.args.a.now c.args.b.now c.args.at (32 * c.loop-i.i) c.requires.weights c.type_inv.b (omega arith) _ c.loop-i.invariant.first

pub plus-second-requires-clause-small : goal.plus-second-requires-clause-small
plus-second-requires-clause-small c =
    sum-small c.args.a.now c.args.b.now (c.args.at + 1) (32 * c.loop-i.i) c.requires.weights c.type_inv.b (omega arith) _ c.loop-i.invariant.second

pub plus-third-requires-clause-small : goal.plus-third-requires-clause-small
plus-third-requires-clause-small c =
    sum-small c.args.a.now c.args.b.now (c.args.at + 2) (32 * c.loop-i.i) c.requires.weights c.type_inv.b (omega arith) _ c.loop-i.invariant.third

pub plus-fourth-requires-clause-small : goal.plus-fourth-requires-clause-small
plus-fourth-requires-clause-small c =
    sum-small c.args.a.now c.args.b.now (c.args.at + 3) (32 * c.loop-i.i) c.requires.weights c.type_inv.b (omega arith) _ c.loop-i.invariant.fourth

pub loop-i-preserved : goal.loop-i-preserved
loop-i-preserved c = record {
  first =
      vector-more c.args.a.now c.args.b.now c.args.at c.loop-i.i _ _ _ _ (omega arith) (omega arith) refl c.weights-vector.ensures.value c.loop-i.invariant.first
      c.plus-first.ensures.value;
  second =
      vector-more c.args.a.now c.args.b.now (c.args.at + 1) c.loop-i.i _ _ _ _ (omega arith) (omega arith) (omega arith) c.weights-vector.ensures.value c.loop-i.invariant.second
      c.plus-second.ensures.value;
  third =
      vector-more c.args.a.now c.args.b.now (c.args.at + 2) c.loop-i.i _ _ _ _ (omega arith) (omega arith) (omega arith) c.weights-vector.ensures.value c.loop-i.invariant.third
      c.plus-third.ensures.value;
  fourth =
      vector-more c.args.a.now c.args.b.now (c.args.at + 3) c.loop-i.i _ _ _ _ (omega arith) (omega arith) (omega arith) c.weights-vector.ensures.value c.loop-i.invariant.fourth
      c.plus-fourth.ensures.value;
  first_lanes = c.plus-first.ensures.lanes;
  second_lanes = c.plus-second.ensures.lanes;
  third_lanes = c.plus-third.ensures.lanes;
  fourth_lanes = c.plus-fourth.ensures.lanes;
}

pub total-requires : goal.total-requires
total-requires c = sum-small c.args.a.now c.args.b.now c.args.at (32 * c.loop-i.i) c.requires.weights c.type_inv.b (omega arith) _ c.loop-i.invariant.first

pub total-requires-2 : goal.total-requires-2
total-requires-2 c = sum-small c.args.a.now c.args.b.now (c.args.at + 1) (32 * c.loop-i.i) c.requires.weights c.type_inv.b (omega arith) _ c.loop-i.invariant.second

pub total-requires-3 : goal.total-requires-3
total-requires-3 c = sum-small c.args.a.now c.args.b.now (c.args.at + 2) (32 * c.loop-i.i) c.requires.weights c.type_inv.b (omega arith) _ c.loop-i.invariant.third

pub total-requires-4 : goal.total-requires-4
total-requires-4 c = sum-small c.args.a.now c.args.b.now (c.args.at + 3) (32 * c.loop-i.i) c.requires.weights c.type_inv.b (omega arith) _ c.loop-i.invariant.fourth

pub returns : goal.returns
returns c =
    four-lags 8 c.args.a.now c.args.b.now c.args.at c.loop-i.i c.args.count _ _ _ _ c.loop-i.invariant (omega arith) _ _ _ _ c.total.ensures c.total-2.ensures c.total-3.ensures c.total-4.ensures
