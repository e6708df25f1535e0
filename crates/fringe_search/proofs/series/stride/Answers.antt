use Rattle.std.proofs.Common.{◌*◌, ◌^◌, ap₂, arith}
use Rattle.std.proofs.lemmas.Nat.{mul-le}
use Rattle.fringe_search.proofs.series.stride.Goals as goal

pub overflow_mul-result : goal.overflow_mul-result
overflow_mul-result c = omega (arith, mul-le c.lags.result c.each.result 1024 (2 ^ 18) (omega (arith, c.each.ensures.head.lags, c.lags.ensures)) (omega arith))

pub returns : goal.returns
returns c = ap₂ (λ x y. x * y) c.lags.ensures c.each.ensures.value
