use Rattle.block_lags.proofs.Units.{sum-fits, difference-fits, sum_is, difference_is, sum-weight, difference-weight}
use Rattle.block_lags.proofs.still.both.Goals as goal

pub overflow_add-result : goal.overflow_add-result
overflow_add-result c = sum-fits c.args.a.re c.args.b.re c.args.a.im c.args.b.im c.requires.a.0 c.requires.b.0 c.requires.a.1 c.requires.b.1

pub overflow_sub-result : goal.overflow_sub-result
overflow_sub-result c = difference-fits c.args.a.im c.args.b.re c.args.a.re c.args.b.im c.requires.a.1 c.requires.b.0 c.requires.a.0 c.requires.b.1

pub returns-clause-re : goal.returns-clause-re
returns-clause-re c = sum_is c.args.a.re c.args.b.re c.args.a.im c.args.b.im c.requires.a.0 c.requires.b.0 c.requires.a.1 c.requires.b.1

pub returns-clause-im : goal.returns-clause-im
returns-clause-im c = difference_is c.args.a.im c.args.b.re c.args.a.re c.args.b.im c.requires.a.1 c.requires.b.0 c.requires.a.0 c.requires.b.1

pub returns-clause-small : goal.returns-clause-small
returns-clause-small c = (
  sum-weight c.args.a.re c.args.b.re c.args.a.im c.args.b.im c.requires.a.0 c.requires.b.0 c.requires.a.1 c.requires.b.1,
  difference-weight c.args.a.im c.args.b.re c.args.a.re c.args.b.im c.requires.a.1 c.requires.b.0 c.requires.a.0 c.requires.b.1,
)
