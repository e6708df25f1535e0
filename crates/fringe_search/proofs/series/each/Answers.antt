use Rattle.std.proofs.Common.{◌*◌, ap₂, arith}
use Rattle.std.proofs.lemmas.Nat.{mul-le}
use Rattle.fringe_search.proofs.series.each.Goals as goal

pub overflow_mul-result : goal.overflow_mul-result
overflow_mul-result c = omega (arith, mul-le c.products.result c.baselines.result 256 528 (omega arith) (omega arith))

pub returns-clause-value : goal.returns-clause-value
returns-clause-value c = ap₂ (λ x y. x * y) c.products.ensures.value c.baselines.ensures.value

pub returns-clause-few : goal.returns-clause-few
returns-clause-few c = omega (arith, mul-le c.products.result c.baselines.result 256 528 (omega arith) (omega arith))
