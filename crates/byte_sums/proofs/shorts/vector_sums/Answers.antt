use Rattle.std.proofs.Common.{◌+◌, ◌*◌, refl, ap, ◌∙◌, arith}
use Rattle.std.specs.Simd.Lanes.{sum_l, products}
use Rattle.byte_sums.proofs.Chunks.{vector-more, four-none, four-lags}
use Rattle.byte_sums.proofs.Small.{weaker, more-small, none-small}
use Rattle.byte_sums.proofs.shorts.vector_sums.Goals as goal

pub loop-i-init : goal.loop-i-init
loop-i-init c = record {
  sums = four-none 16 c.args.a.now c.args.b.now c.args.at _ refl refl;
  first_small = none-small;
  second_small = none-small;
  third_small = none-small;
  fourth_small = none-small;
}

pub plus-first-requires-clause-room : goal.plus-first-requires-clause-room
plus-first-requires-clause-room c = weaker (288 * c.loop-i.i) 65000 _ (omega arith) c.loop-i.invariant.first_small

pub plus-second-requires-clause-room : goal.plus-second-requires-clause-room
plus-second-requires-clause-room c = weaker (288 * c.loop-i.i) 65000 _ (omega arith) c.loop-i.invariant.second_small

pub plus-third-requires-clause-room : goal.plus-third-requires-clause-room
plus-third-requires-clause-room c = weaker (288 * c.loop-i.i) 65000 _ (omega arith) c.loop-i.invariant.third_small

pub plus-fourth-requires-clause-room : goal.plus-fourth-requires-clause-room
plus-fourth-requires-clause-room c = weaker (288 * c.loop-i.i) 65000 _ (omega arith) c.loop-i.invariant.fourth_small

pub loop-i-preserved : goal.loop-i-preserved
loop-i-preserved c = record {
  sums = record {
    first =
        vector-more c.args.a.now c.args.b.now c.args.at c.loop-i.i _ _ _ _ (omega arith) (omega arith) refl c.small_bytes-vector.ensures.value c.loop-i.invariant.sums.first
        (c.plus-first.ensures.value ∙ ap (λ v. sum_l c.loop-i.first + sum_l (products v c.small_bytes-vector.result)) c.small_bytes.ensures.value);
    second =
        vector-more c.args.a.now c.args.b.now (c.args.at + 1) c.loop-i.i _ _ _ _ (omega arith) (omega arith) (omega arith) c.small_bytes-vector.ensures.value c.loop-i.invariant.sums.second
        (c.plus-second.ensures.value ∙ ap (λ v. sum_l c.loop-i.second + sum_l (products v c.small_bytes-vector.result)) c.small_bytes-in-loop-i.ensures.value);
    third =
        vector-more c.args.a.now c.args.b.now (c.args.at + 2) c.loop-i.i _ _ _ _ (omega arith) (omega arith) (omega arith) c.small_bytes-vector.ensures.value c.loop-i.invariant.sums.third
        (c.plus-third.ensures.value ∙ ap (λ v. sum_l c.loop-i.third + sum_l (products v c.small_bytes-vector.result)) c.small_bytes-in-loop-i-2.ensures.value);
    fourth =
        vector-more c.args.a.now c.args.b.now (c.args.at + 3) c.loop-i.i _ _ _ _ (omega arith) (omega arith) (omega arith) c.small_bytes-vector.ensures.value c.loop-i.invariant.sums.fourth
        (c.plus-fourth.ensures.value ∙ ap (λ v. sum_l c.loop-i.fourth + sum_l (products v c.small_bytes-vector.result)) c.small_bytes-in-loop-i-3.ensures.value);
    first_lanes = c.plus-first.ensures.lanes;
    second_lanes = c.plus-second.ensures.lanes;
    third_lanes = c.plus-third.ensures.lanes;
    fourth_lanes = c.plus-fourth.ensures.lanes;
  };
  first_small = more-small c.loop-i.i _ (c.plus-first.ensures.small (288 * c.loop-i.i) c.loop-i.invariant.first_small);
  second_small = more-small c.loop-i.i _ (c.plus-second.ensures.small (288 * c.loop-i.i) c.loop-i.invariant.second_small);
  third_small = more-small c.loop-i.i _ (c.plus-third.ensures.small (288 * c.loop-i.i) c.loop-i.invariant.third_small);
  fourth_small = more-small c.loop-i.i _ (c.plus-fourth.ensures.small (288 * c.loop-i.i) c.loop-i.invariant.fourth_small);
}

pub returns : goal.returns
returns c =
    four-lags 16 c.args.a.now c.args.b.now c.args.at c.loop-i.i c.args.count _ _ _ _ c.loop-i.invariant.sums (omega arith) _ _ _ _ c.total.ensures c.total-2.ensures c.total-3.ensures c.total-4.ensures
