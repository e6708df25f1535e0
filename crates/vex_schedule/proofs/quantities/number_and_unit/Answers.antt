use Rattle.std.proofs.Common.{arith}
use Rattle.vex_schedule.proofs.Lists.{number_and_unit-one, number_and_unit-two, number_and_unit-other}
use Rattle.vex_schedule.proofs.quantities.number_and_unit.Goals as goal

pub returns-then-texts-eq1 : goal.returns-then-texts-eq1
returns-then-texts-eq1 c = grind (arith, number_and_unit-one)

pub returns-then-texts-eq2 : goal.returns-then-texts-eq2
returns-then-texts-eq2 c = grind (arith, number_and_unit-two)

pub returns : goal.returns
returns c = grind (arith, number_and_unit-other)
