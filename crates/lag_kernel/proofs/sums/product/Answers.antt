use Rattle.std.proofs.Common.{◌≡◌, w32, to_z, of_z, arith}
use Rattle.std.proofs.lemmas.Int.{ints}
use Rattle.corr_model.proofs.CellLemmas.{product-small}
use Rattle.lag_kernel.proofs.sums.product.Goals as goal

pub returns-clause-small : goal.returns-clause-small
returns-clause-small c =
    let bounds = product-small c.args.x c.args.y c.requires.first c.requires.second in
    let first : to_z w32 (of_z w32 c.from.result) ≡ c.args.x = omega (arith, ints) in
    let second : to_z w32 (of_z w32 c.from-2.result) ≡ c.args.y = omega (arith, ints) in
    rw (first, second) (omega (arith, ints, bounds.0, bounds.1), omega (arith, ints, bounds.0, bounds.1))
