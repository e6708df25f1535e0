use Rattle.std.proofs.Common.{arith}
use Rattle.std.proofs.lemmas.Int.{ints}
use Rattle.delay_line.proofs.Exits.{rising_exit, falling_exit, level_exit}
use Rattle.delay_line.proofs.line.Line.leaves.Goals as goal

pub returns-then-self : goal.returns-then-self
returns-then-self c =
    let x = c.args in
    let line = x.self.now in
    let f = c.first_reaching.ensures in
    rising_exit line.first line.next x.delays.least x.delays.end c.rise-rise.result c.gap.result line.knot x.from x.to c.first_reaching.result
    (omega arith) (omega (arith, ints, c.rise-rise.ensures)) (omega (arith, ints, c.gap.ensures.value)) c.requires.order c.requires.begins
    f.within f.below f.above

pub returns-then-self-2 : goal.returns-then-self-2
returns-then-self-2 c =
    let x = c.args in
    let line = x.self.now in
    let f = c.first_past.ensures in
    falling_exit line.first line.next x.delays.least x.delays.end c.rise-fall.result c.gap-then-self-2.result line.knot x.from x.to c.first_past.result
    (omega arith) (omega (arith, ints, c.rise-fall.ensures)) (omega (arith, ints, c.gap-then-self-2.ensures.value)) c.requires.order c.requires.begins
    f.within f.below f.above

pub returns-else-self-2 : goal.returns-else-self-2
returns-else-self-2 c =
    let x = c.args in
    let line = x.self.now in
    level_exit line.first line.next x.delays.least x.delays.end line.knot x.from x.to (omega arith) (omega (arith, ints)) c.requires.order c.requires.begins
