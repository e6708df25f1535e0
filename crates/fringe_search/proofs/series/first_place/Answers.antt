use Rattle.std.proofs.Common.{◌*◌, ◌+◌, ◌^◌, ◌∙◌, ap, ap₂, arith}
use Rattle.std.proofs.lemmas.Nat.{mul-le}
use Rattle.fringe_search.proofs.series.first_place.Goals as goal

pub number_of-requires-clause-product : goal.number_of-requires-clause-product
number_of-requires-clause-product c = omega (arith, c.baselines.ensures.head.products, c.requires.product)

pub number_of-requires-clause-baseline : goal.number_of-requires-clause-baseline
number_of-requires-clause-baseline c = omega (arith, c.baselines.ensures.few, c.baselines.ensures.value, c.requires.baseline)

pub overflow_mul-result : goal.overflow_mul-result
overflow_mul-result c = omega (arith, mul-le c.lags.result c.number_of.result 1024 (2 ^ 18) (omega (arith, c.baselines.ensures.head.lags, c.lags.ensures)) (omega arith))

pub returns : goal.returns
returns c = ap₂ (λ x y. x * y) c.lags.ensures (c.number_of.ensures.value ∙ ap (λ n. c.args.at.product * n + c.args.at.baseline) c.baselines.ensures.value)
