use Rattle.std.proofs.Common.{arith}
use Rattle.std.proofs.lemmas.Int.{ints}
use Rattle.delay_line.proofs.Lines.{part_on}
use Rattle.delay_line.proofs.line.Line.delay.Goals as goal

pub overflow_cast-result : goal.overflow_cast-result
overflow_cast-result c =
    let line = c.args.self.now in
    let part = part_on line.first line.next _ c.part.result c.args.past line.knot c.requires line.bound_first line.bound_next c.part.ensures (omega (arith, ints, line.bound_first, line.bound_next)) in
    omega (arith, ints, part.0, line.bound_first, line.bound_next)

pub overflow_add-result : goal.overflow_add-result
overflow_add-result c =
    let line = c.args.self.now in
    let part = part_on line.first line.next _ c.part.result c.args.past line.knot c.requires line.bound_first line.bound_next c.part.ensures (omega (arith, ints, line.bound_first, line.bound_next)) in
    omega (arith, ints, part.0, part.2, line.bound_first, line.bound_next)

pub returns-clause-value : goal.returns-clause-value
returns-clause-value c =
    let line = c.args.self.now in
    let part = part_on line.first line.next _ c.part.result c.args.past line.knot c.requires line.bound_first line.bound_next c.part.ensures (omega (arith, ints, line.bound_first, line.bound_next)) in
    rw (← part.1) (omega (arith, ints, part.0, part.2, line.bound_first, line.bound_next))

pub returns-clause-bound : goal.returns-clause-bound
returns-clause-bound c =
    let line = c.args.self.now in
    let part = part_on line.first line.next _ c.part.result c.args.past line.knot c.requires line.bound_first line.bound_next c.part.ensures (omega (arith, ints, line.bound_first, line.bound_next)) in
    omega (arith, ints, part.0, part.2, line.bound_first, line.bound_next)
