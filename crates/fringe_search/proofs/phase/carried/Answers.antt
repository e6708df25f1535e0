use Rattle.std.proofs.Common.{arith}
use Rattle.fringe_search.proofs.Phasing.{carried_one}
use Rattle.fringe_search.proofs.phase.carried.Goals as goal

pub returns-else-part-divide-clause-value : goal.returns-else-part-divide-clause-value
returns-else-part-divide-clause-value c = carried_one c.args.sector c.args.part c.args.divide (omega arith)
