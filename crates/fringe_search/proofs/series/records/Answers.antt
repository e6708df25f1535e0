use Rattle.std.proofs.Common.{◌*◌, ◌^◌, ◌∙◌, ap₂, arith}
use Rattle.std.proofs.lemmas.Nat.{mul-le}
use Rattle.fringe_search.proofs.series.records.Goals as goal

pub overflow_mul-result : goal.overflow_mul-result
overflow_mul-result c = omega (arith, c.from.ensures, mul-le c.integrations.result c.from.result (2 ^ 40) (2 ^ 18) (omega arith) (omega (arith, c.from.ensures)))

pub returns : goal.returns
returns c = ap₂ (λ x y. x * y) c.integrations.ensures.value (c.from.ensures ∙ c.each.ensures.value)
