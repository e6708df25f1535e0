use Rattle.sum_cases.proofs.Zeros.{zeros-small}
use Rattle.sum_cases.proofs.case.Case.sums.Goals as goal

pub fill-requires-clause-small : goal.fill-requires-clause-small
fill-requires-clause-small c = zeros-small 4096 c.args.self.now.greatest

pub fill-requires-2-clause-small : goal.fill-requires-2-clause-small
fill-requires-2-clause-small c = zeros-small 5120 c.args.self.now.greatest
