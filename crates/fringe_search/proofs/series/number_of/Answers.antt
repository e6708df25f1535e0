use Rattle.std.proofs.Common.{arith}
use Rattle.std.proofs.lemmas.Nat.{mul-le}
use Rattle.fringe_search.proofs.series.number_of.Goals as goal

pub overflow_mul-result : goal.overflow_mul-result
overflow_mul-result c = omega (arith, mul-le c.args.at.product c.args.baselines 255 528 (omega arith) (omega arith))

pub overflow_add-result : goal.overflow_add-result
overflow_add-result c = omega (arith, mul-le c.args.at.product c.args.baselines 255 528 (omega arith) (omega arith))

pub returns-clause-few : goal.returns-clause-few
returns-clause-few c = omega (arith, mul-le c.args.at.product c.args.baselines 255 528 (omega arith) (omega arith))
