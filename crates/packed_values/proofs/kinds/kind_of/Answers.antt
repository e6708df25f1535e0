use Rattle.std.proofs.Common.{Some, ap, ◌∙◌}
use Rattle.packed_values.proofs.Bits.{bias-from_one, direction-from_one, bits-all_narrow, bits-all_along, first-along}
use Rattle.packed_values.proofs.kinds.kind_of.Goals as goal

pub returns-clause-bias : goal.returns-clause-bias
returns-clause-bias c =
    bias-from_one c.args.codes.now c.first_of-one.result c.differing-bits.result c.bias_of.result
    (λ k. (c.type_inv.codes k).fits) c.differing-bits.ensures.each c.bias_of.ensures.bias

pub returns-clause-direction : goal.returns-clause-direction
returns-clause-direction c =
    direction-from_one c.args.codes.now c.first_of-one.result c.differing-bits.result c.direction_of.result c.differing-bits.ensures.each
    c.direction_of.ensures.direction

pub returns-clause-narrow : goal.returns-clause-narrow
returns-clause-narrow c = λ narrow.
    c.bias_of.ensures.narrow
    (bits-all_narrow c.args.codes.now c.first_of-one.result c.differing-bits.result (λ k. (c.type_inv.codes k).fits) c.first_of-one.ensures
    c.differing-bits.ensures.all narrow)

pub returns-clause-along : goal.returns-clause-along
returns-clause-along c = λ d some along.
    let codes = c.args.codes.now in
    let one = c.first_of-one.result in
    let bits = c.differing-bits.result in
    let is = first-along codes one bits (λ k. (c.type_inv.codes k).fits) c.first_of-one.ensures c.differing-bits.ensures.all d some along in
    c.direction_of.ensures.along is.0
    (bits-all_along codes one bits (λ k. (c.type_inv.codes k).fits) c.first_of-one.ensures c.differing-bits.ensures.all d some along)
    ∙ ap Some is.1
