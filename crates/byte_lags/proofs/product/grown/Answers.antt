use Rattle.std.proofs.Common.{◌^◌, ◌*ℤ◌}
use Rattle.byte_lags.proofs.Bounds.{grown_is, abs-plus, abs-times}
use Rattle.byte_lags.proofs.product.grown.Goals as goal

pub returns-clause-value : goal.returns-clause-value
returns-clause-value c = grown_is c.args.old c.args.weight c.args.value c.requires.old c.requires.weight c.requires.value

pub returns-clause-within : goal.returns-clause-within
returns-clause-within c = λ most h.
    rw (grown_is c.args.old c.args.weight c.args.value c.requires.old c.requires.weight c.requires.value)
    (abs-plus c.args.old (c.args.weight *ℤ c.args.value) most (2 ^ 34) h (abs-times c.args.weight c.args.value c.requires.weight c.requires.value))
