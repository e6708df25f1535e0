use Rattle.std.proofs.Common.{◌≡◌, bit_and, get_or, arith, rules, inl, inr}
use Rattle.std.proofs.lemmas.Bool.{cases_lt, eqb-true}
use Rattle.std.proofs.lemmas.List.{get_or_past}
use Rattle.byte_sums.proofs.Evens.{levels-more}
use Rattle.byte_sums.proofs.levels.halve.Goals as goal

pub loop-k-preserved : goal.loop-k-preserved
loop-k-preserved c = record {
  len = search rules;
  done = search rules;
  rest = search rules;
  levels = levels-more c.loop-k.bits c.loop-k.k (λ k. get_or c.args.bytes.now k 0) (c.type_inv.bytes c.loop-k.k).fits c.loop-k.invariant.levels;
}

pub returns-clause-halves : goal.returns-clause-halves
returns-clause-halves c = λ clear k.
    let none : bit_and c.loop-k.bits 249 ≡ 0 = eqb-true (bit_and c.loop-k.bits 249) 0 clear in
    elim (cases_lt k c.loop-k.k) [
      | inl lt ↦ omega (arith, c.loop-k.invariant.done k lt, (c.loop-k.invariant.levels none k lt).even)
      | inr le ↦ omega (arith, c.loop-k.invariant.rest k le, get_or_past c.args.bytes.now k 0 (omega arith))
    ]

pub returns-clause-small : goal.returns-clause-small
returns-clause-small c = λ clear k.
    let none : bit_and c.loop-k.bits 249 ≡ 0 = eqb-true (bit_and c.loop-k.bits 249) 0 clear in
    elim (cases_lt k c.loop-k.k) [
      | inl lt ↦ omega (arith, c.loop-k.invariant.done k lt, (c.loop-k.invariant.levels none k lt).small)
      | inr le ↦ omega (arith, c.loop-k.invariant.rest k le)
    ]
