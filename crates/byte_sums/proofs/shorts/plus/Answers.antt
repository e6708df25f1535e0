use Rattle.std.proofs.Common.{ℕ, ◌+◌, ap, sym, ◌∙◌}
use Rattle.std.specs.Simd.Lanes.{sum_l}
use Rattle.std.proofs.lemmas.Simd.{length-zip2, sum-zip2}
use Rattle.byte_sums.proofs.Small.{small-weights, small-bytes, pairs-sum, pairs-small, added-fit, added-small}
use Rattle.byte_sums.proofs.shorts.plus.Goals as goal

pub pairs-requires-clause-weights : goal.pairs-requires-clause-weights
pairs-requires-clause-weights c = small-weights c.args.a c.requires.a

pub pairs-requires-clause-bytes : goal.pairs-requires-clause-bytes
pairs-requires-clause-bytes c = small-bytes c.args.b c.requires.b

pub overflow_add-result : goal.overflow_add-result
overflow_add-result c = added-fit c.args.sums c.pairs.result c.requires.room (pairs-small c.args.b c.args.a c.pairs.result c.requires.lens.0 c.requires.lens.1 c.requires.b c.requires.a c.pairs.ensures.len c.pairs.ensures.lanes)

pub returns-clause-lanes : goal.returns-clause-lanes
returns-clause-lanes c = length-zip2 (λ (x y : ℕ). x + y) c.args.sums c.pairs.result (c.requires.lanes ∙ sym c.pairs.ensures.len) ∙ c.requires.lanes

pub returns-clause-value : goal.returns-clause-value
returns-clause-value c =
    sum-zip2 c.args.sums c.pairs.result (c.requires.lanes ∙ sym c.pairs.ensures.len)
    ∙ ap (λ s. sum_l c.args.sums + s) (pairs-sum c.args.b c.args.a c.pairs.result c.requires.lens.0 c.requires.lens.1 c.pairs.ensures.len c.pairs.ensures.lanes)

pub returns-clause-small : goal.returns-clause-small
returns-clause-small c = λ most h. added-small most c.args.sums c.pairs.result h (pairs-small c.args.b c.args.a c.pairs.result c.requires.lens.0 c.requires.lens.1 c.requires.b c.requires.a c.pairs.ensures.len c.pairs.ensures.lanes)
