use Rattle.fringe_search.proofs.Phasing.{stepped}
use Rattle.fringe_search.proofs.phase.next.Goals as goal

pub returns-clause-value : goal.returns-clause-value
returns-clause-value c =
    stepped c.args.divide c.args.now.sector c.args.now.part c.args.step.sector c.args.step.part c.wrapped.result c.carried-sum.result.part
    c.carried-sum.result.sector c.wrapped.ensures.value c.carried-sum.ensures.part c.carried-sum.ensures.value
