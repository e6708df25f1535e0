use Rattle.std.proofs.Common.{◌+◌, sym, subst, arith}
use Rattle.std.proofs.lemmas.Int.{ints}
use Rattle.corr_model.specs.declared.cell.Cell.{Cell}
use Rattle.corr_model.proofs.CellLemmas.{IsGrown, IsGrown-plus}
use Rattle.lag_kernel.proofs.block.add_sum.Goals as goal

pub returns-clause-grown : goal.returns-clause-grown
returns-clause-grown c =
    subst (λ (d : Cell). IsGrown d (c.args.pairs + c.args.n)) (sym c.plus.ensures.sum)
    (IsGrown-plus c.args.cell c.lag_sum.result c.args.pairs c.args.n c.requires.grown c.lag_sum.ensures.grown)

pub plus-requires-clause-re : goal.plus-requires-clause-re
plus-requires-clause-re c =
    omega (arith, ints, c.requires.grown.re_low, c.requires.grown.re_high, c.lag_sum.ensures.grown.re_low, c.lag_sum.ensures.grown.re_high)
