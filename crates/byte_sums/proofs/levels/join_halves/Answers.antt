use Rattle.std.proofs.Common.{◌<◌, ◌+◌, bit_and, get_or, arith, rules, inl, inr}
use Rattle.std.proofs.lemmas.Bool.{cases_lt, eqb-true}
use Rattle.byte_sums.proofs.Evens.{pairs-more}
use Rattle.byte_sums.proofs.levels.join_halves.Goals as goal

pub loop-k-preserved : goal.loop-k-preserved
loop-k-preserved c = record {
  len = search rules;
  near = search rules;
  far = search rules;
  rest = search rules;
  levels = pairs-more c.loop-k.bits c.loop-k.k (λ k. get_or c.args.bytes.now k 0) (λ k. get_or c.args.bytes.now (c.args.far + k) 0) (c.type_inv.bytes c.loop-k.k).fits
      (c.type_inv.bytes (c.args.far + c.loop-k.k)).fits c.loop-k.invariant.levels;
}

pub returns-clause-near : goal.returns-clause-near
returns-clause-near c = λ clear k lt.
    let within : k < c.loop-k.k = omega arith in
    let levels = c.loop-k.invariant.levels (eqb-true (bit_and c.loop-k.bits 249) 0 clear) k within in
    c.loop-k.invariant.near k within levels.0 levels.1

pub returns-clause-far : goal.returns-clause-far
returns-clause-far c = λ clear k lt.
    let within : k < c.loop-k.k = omega arith in
    let levels = c.loop-k.invariant.levels (eqb-true (bit_and c.loop-k.bits 249) 0 clear) k within in
    c.loop-k.invariant.far k within levels.0 levels.1

pub returns-clause-fields : goal.returns-clause-fields
returns-clause-fields c = λ clear k. elim (cases_lt k c.loop-k.k) [
  | inl lt ↦
      let levels = c.loop-k.invariant.levels (eqb-true (bit_and c.loop-k.bits 249) 0 clear) k lt in
      let near = c.loop-k.invariant.near k lt levels.0 levels.1 in
      let far = c.loop-k.invariant.far k lt levels.0 levels.1 in
      (omega (arith, near, levels.0.small), omega (arith, far, levels.1.small))
  | inr le ↦ (omega (arith, c.loop-k.invariant.rest k le), omega (arith, c.loop-k.invariant.rest k le))
]
