use Rattle.std.proofs.Common.{w32, arith}
use lib.LanesLaws.{fold-sum}
use Rattle.std.proofs.lemmas.Simd.{sum_fits}
use Rattle.byte_sums.proofs.dots.total.Goals as goal

pub overflow_add-result : goal.overflow_add-result
overflow_add-result c = sum_fits w32 0 c.args.sums (omega (arith, c.requires))

pub returns : goal.returns
returns c = omega (arith, fold-sum 0 c.args.sums)
