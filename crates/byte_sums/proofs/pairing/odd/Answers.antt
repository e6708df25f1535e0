use Rattle.std.proofs.Common.{◌+◌, ◌*◌, ◌++◌, arith, get_or, ◌∙◌}
use Rattle.std.proofs.Math.ListN.{get_or-append}
use Rattle.byte_sums.proofs.Places.{sixteen}
use Rattle.byte_sums.proofs.pairing.odd.Goals as goal

pub returns-clause-lanes : goal.returns-clause-lanes
returns-clause-lanes c = λ k lt. sixteen (λ k. get_or (c.args.v ++ c.args.v) (2 * k + 1) 0) k lt ∙ get_or-append c.args.v c.args.v 0 (2 * k + 1) (omega arith)
