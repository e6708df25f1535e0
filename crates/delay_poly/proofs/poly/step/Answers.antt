use Rattle.std.proofs.Common.{◌≡◌, ◌≤◌, ◌*ℤ◌, pos, w64, FitsSigned, unsigned_abs, arith}
use Rattle.std.specs.Int.{int_div_euclid}
use Rattle.std.proofs.lemmas.Int.{ints, to_z-of_z}
use Rattle.delay_poly.proofs.Floors.{floor_small}
use Rattle.delay_poly.proofs.poly.step.Goals as goal

part_is : (c : goal.After-part) → (c.part.result ≡ int_div_euclid (c.args.behind *ℤ pos c.args.j) (pos 16777216)) × (unsigned_abs c.part.result ≤ unsigned_abs c.args.behind)
part_is c =
    let fits : FitsSigned w64 c.args.behind = c.ranges.behind in
    let is = simp to_z-of_z at c.part.ensures in
    (is, rw is (floor_small c.args.behind c.args.j c.requires.time))

pub overflow_add-result : goal.overflow_add-result
overflow_add-result c = omega (arith, ints, (part_is c).1)

pub returns-clause-value : goal.returns-clause-value
returns-clause-value c = rw (← (part_is c).0) (omega (arith, ints, (part_is c).1))

pub returns-clause-bound : goal.returns-clause-bound
returns-clause-bound c = omega (arith, ints, (part_is c).1)
