use Rattle.std.proofs.Common.{◌≡◌, pos, neg_ℤ, ◌*ℤ◌, ◌≤ℤ◌, w64, to_z, of_z, arith}
use Rattle.std.proofs.lemmas.Int.{ints}
use Rattle.corr_model.proofs.CellLemmas.{product-small}
use Rattle.corr_model.proofs.plain.product_of_parts.Goals as goal

-- the bounds of the product of the two components, as they are passed on
bounds : (c : goal.After-from-2)
    → (neg_ℤ (pos 225) ≤ℤ (to_z w64 (of_z w64 c.from.result) *ℤ to_z w64 (of_z w64 c.from-2.result)))
    × ((to_z w64 (of_z w64 c.from.result) *ℤ to_z w64 (of_z w64 c.from-2.result)) ≤ℤ pos 225)
bounds c =
    let first : to_z w64 (of_z w64 c.from.result) ≡ c.args.x = omega (arith, ints) in
    let second : to_z w64 (of_z w64 c.from-2.result) ≡ c.args.y = omega (arith, ints) in
    rw (first, second) (product-small c.args.x c.args.y c.requires.first c.requires.second)

pub returns-clause-low : goal.returns-clause-low
returns-clause-low c = let small = bounds c in omega (arith, ints, small.0, small.1)

pub returns-clause-high : goal.returns-clause-high
returns-clause-high c = let small = bounds c in omega (arith, ints, small.0, small.1)
